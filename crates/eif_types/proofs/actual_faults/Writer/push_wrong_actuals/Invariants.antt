use Rattle.std.proofs.Common.{◌≡◌, ◌++◌, map}
use Rattle.eif_tree.specs.View.{class_view, type_view}
use Rattle.eif_types.proofs.ActualsInTurn.{faults_from}
use Rattle.eif_types.proofs.actual_faults.Writer.push_wrong_actuals.Given as goal

abbrev pub invariant-actuals : goal.invariant-actuals
invariant-actuals l =
    l.out ++ faults_from l.self l.owner (class_view l.base) (map type_view l.actual-items) l.i
    ≡ l.initial.out ++ faults_from l.self l.owner (class_view l.base) (map type_view l.actual-items) 0
