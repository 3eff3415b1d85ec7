use Rattle.std.proofs.Common.{◌≡◌, ℕ, List, drop}
use Rattle.std.specs.Prelude.{◌||◌}
use Rattle.eif_base.specs.Numbering.{is_among}
use Rattle.eif_choices.specs.Picked.{clause_trees}
use Rattle.eif_classes.specs.Binding.{is_selected_in}
use Rattle.eif_choices.proofs.selected.selected_set.Given as goal

abbrev pub invariant-clauses : goal.invariant-clauses
invariant-clauses l = (n : List ℕ)
    → (is_selected_in (clause_trees (drop l.clause-index l.clauses)) n || is_among l.selected n)
    ≡ is_selected_in (clause_trees l.clauses) n
