-- What a stream gave, by what it had left.
use Rattle.std.proofs.Common.{◌≡◌, ℕ, ◌+◌, ◌≤◌, ◌<◌, ◌++◌, List, length, take, drop, Some, None, arith, ap, ◌∙◌, length-append, length-drop}
use Rattle.std.proofs.lemmas.Grind.{common_steps}
use Rattle.std.proofs.lemmas.List.{length-take, take_all}
use Rattle.std.specs.Prelude.{Option, IfSome}
use Rattle.std.specs.Option.{option_map}
use Rattle.eif_base.specs.Reads.{ReadsInto}
use Rattle.eif_base.specs.declared.texts.ReadEnd.{ReadEnd}
use Rattle.eif_base.specs.declared.texts.ReadEnd.TheVariants.{Whole, TooLong}

-- what stands behind the old bytes was appended
appended : (most : ℕ) (old new : List ℕ) → take (length old) new ≡ old → length new ≤ length old + most → ReadsInto None most old new Whole
appended most old new starts fits =
    (drop (length old) new, grind (arith, common_steps), omega (arith, length-drop (length old) new), tt)

-- where fewer bytes came than were asked for, they are all
pub stream_whole : (left : Option (List ℕ)) (most limit : ℕ) (old new : List ℕ) → take (length old) new ≡ old → length new ≤ length old + most → length new < length old + limit → IfSome (option_map (take limit) left) (λ xs. new ≡ old ++ xs) → ReadsInto left most old new Whole
stream_whole None most limit old new starts fits short given = appended most old new starts fits
stream_whole (Some h) most limit old new starts fits short given =
    let n : length new ≡ length old + length (take limit h) = ap length given ∙ length-append old (take limit h) in
    (take limit h, given, omega (arith, n), take_all limit h (omega (arith, n, length-take limit h)))

-- what is said of a read where the bytes are told holds also where they aren't
pub reads_untold : (left : Option (List ℕ)) (most : ℕ) (old new : List ℕ) (end : ReadEnd) → ReadsInto left most old new end → ReadsInto None most old new end
reads_untold left most old new Whole h = (h.0, h.1, h.2, tt)
reads_untold left most old new TooLong h = (h.0, tt)
