use Rattle.std.proofs.Common.{◌≡◌, ℕ, List, map, take}
use Rattle.eif_adapt.specs.declared.adapted.AdaptedEntry.{AdaptedEntry}
use Rattle.eif_base.specs.Numbering.{is_among}
use Rattle.eif_heirs.proofs.redefines.final_names.Given as goal

abbrev pub invariant-entries : goal.invariant-entries
invariant-entries l = (n : List ℕ)
    → is_among l.set n ≡ is_among (map (λ (e : AdaptedEntry). e.final_name) (take l.entry-index l.entries)) n
