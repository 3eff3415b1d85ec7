use Rattle.std.proofs.Common.{◌≡◌, ◌++◌, drop}
use Rattle.std.specs.Prelude.{flat_map}
use Rattle.eif_tree.specs.View.{class_view}
use Rattle.eif_feature_faults.specs.Selected.{clause_needless}
use Rattle.eif_feature_faults.proofs.selection.push_needless.Given as goal

abbrev pub invariant-clauses : goal.invariant-clauses
invariant-clauses l =
    let faults_of = clause_needless (class_view l.class) l.choice in
    l.out ++ flat_map faults_of (drop l.clause-index l.clauses) ≡ l.initial.out ++ flat_map faults_of l.clauses
