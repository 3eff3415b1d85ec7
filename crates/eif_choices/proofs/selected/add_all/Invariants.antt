use Rattle.std.proofs.Common.{◌≡◌, ℕ, List, drop}
use Rattle.std.specs.Prelude.{◌||◌}
use Rattle.eif_base.specs.Numbering.{is_among}
use Rattle.eif_tree.specs.Members.{has_name}
use Rattle.eif_choices.proofs.selected.add_all.Given as goal

abbrev pub invariant-names : goal.invariant-names
invariant-names l = (n : List ℕ)
    → (has_name (drop l.name-index l.names) n || is_among l.set n) ≡ (has_name l.names n || is_among l.initial.set n)
