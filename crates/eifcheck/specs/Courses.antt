-- The reads of a check.
use Rattle.std.specs.Prelude.{◌≡◌, ℕ, ◌<◌, ◌≤◌, ◌⊎◌, List, [], ◌∷◌, ◌++◌, length, map, take, Option, Some, IfSome, slice_get}
use Rattle.std.specs.List.{All}
use Rattle.eif_base.specs.declared.Ended.{Ended}
use Rattle.eif_base.specs.declared.Ended.TheVariants as e
use Rattle.eif_base.specs.declared.limits.TheConstants.{MOST_BYTES}
use Rattle.eif_base.specs.FileLists.{NamedText, names_of, texts_of}
use Rattle.eif_base.specs.Reads.{Read}
use Rattle.eifcheck.specs.declared.reading.Stop.{Stop}
use Rattle.eifcheck.specs.declared.reading.Stop.TheVariants as stop
use Rattle.eifcheck.specs.Steps.{Step, reads, refuses}

-- The texts that were read, one after the other: each read was due after the texts before it, each text is within its
-- limit, and it is what its name holds, where that is told.
pub record IsCourse (next : List (List ℕ) → Step) (holds : List ℕ → Option (List ℕ)) (got : List NamedText) : Type 0 where
  pub due : (i : ℕ) (f : NamedText) → slice_get got i ≡ Some f → next (take i (texts_of got)) ≡ reads f.name
  pub short : All (λ f. length f.text ≤ MOST_BYTES) got
  pub told : All (λ f. IfSome (holds f.name) (λ held. f.text ≡ held)) got

abbrev pub read_of : List ℕ → Ended → Read
read_of name end = record { name = name; end = end }

-- reads that gave these texts whole
abbrev pub whole_reads : List NamedText → List Read
whole_reads got = map (λ f. read_of f.name e.Whole) got

-- these reads were made, and nothing else
abbrev pub MakesReads : List NamedText → List Read → List Read → List Read → Type 0
MakesReads got last old new = new ≡ old ++ whole_reads got ++ last

-- a read that was due ended so
abbrev pub EndsAt : (List (List ℕ) → Step) → List NamedText → List ℕ → Ended → List Read → List Read → Type 0
EndsAt next got name end old new = (next (texts_of got) ≡ reads name) × MakesReads got (read_of name end ∷ []) old new

-- why the files of a check can't be judged
abbrev pub Stops : (List (List ℕ) → Step) → (List ℕ → Option (List ℕ)) → List NamedText → List Read → List Read → Stop → Type 0
-- a read that was due failed
Stops next holds got old new stop.ReadFault = (name : List ℕ) × EndsAt next got name e.Failed old new
-- the files are too many or too large together, or a name that was due holds too many bytes
Stops next holds got old new stop.TooLarge =
    ((next (texts_of got) ≡ refuses) × MakesReads got [] old new)
    ⊎ ((name : List ℕ) × EndsAt next got name e.TooLong old new × IfSome (holds name) (λ held. MOST_BYTES < length held))
-- memory may run out at any time
Stops next holds got old new stop.Memory = MakesReads got [] old new
