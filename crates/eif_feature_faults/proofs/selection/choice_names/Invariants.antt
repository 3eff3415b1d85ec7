use Rattle.std.proofs.Common.{◌≡◌, ℕ, List, drop}
use Rattle.std.specs.Prelude.{◌||◌}
use Rattle.eif_base.specs.Numbering.{is_among}
use Rattle.eif_feature_rules.specs.SelectionRules.{is_choice}
use Rattle.eif_feature_faults.specs.Selected.{AreAllNamed}
use Rattle.eif_feature_faults.proofs.selection.choice_names.Given as goal

abbrev pub invariant-candidates : goal.invariant-candidates
invariant-candidates l =
    (choices : List (List (List ℕ))) → AreAllNamed l.names l.candidates choices → (n : List ℕ)
    → (is_among l.set n || is_choice (drop l.one-index choices) n) ≡ is_choice choices n
