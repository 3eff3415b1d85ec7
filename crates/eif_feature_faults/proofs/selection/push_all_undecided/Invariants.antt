use Rattle.std.proofs.Common.{◌≡◌, ℕ, List, ◌++◌, drop}
use Rattle.std.specs.Prelude.{flat_map}
use Rattle.eif_tree.specs.View.{class_view}
use Rattle.eif_feature_faults.specs.Selected.{AreAllNamed, undecided_by}
use Rattle.eif_feature_faults.proofs.selection.push_all_undecided.Given as goal

abbrev pub invariant-candidates : goal.invariant-candidates
invariant-candidates l =
    let faults_of = undecided_by (class_view l.heir.tree.now) l.set in
    (choices : List (List (List ℕ))) → AreAllNamed l.heir.names.items l.candidates choices
    → l.out ++ flat_map faults_of (drop l.one-index choices) ≡ l.initial.out ++ flat_map faults_of choices
