use Rattle.std.proofs.Common.{◌≡◌, map, ap, sym}
use Rattle.eif_tree.specs.View.{class_view, formal_view}
use Rattle.eif_universe.specs.ClassesView.{classes_view}
use Rattle.eif_universe.proofs.FormalsInTurn.{one_formal_on}
use Rattle.eif_universe.proofs.class_rules.push_faults_of_formals.Goals as goal

pub formals-preserved : goal.formals-preserved
formals-preserved c =
    let judged = class_view c.args.class.now in
    let fs = c.as_slice-formals.result.now in
    let same : judged.formals ≡ map formal_view fs = ap (map formal_view) (sym c.as_slice-formals.ensures.value) in
    let u = classes_view c.args.classes.now in
    one_formal_on u judged fs same c.formals.i c.index-formals-i.result c.formals.out _ _
    c.formals-test.true c.index-formals-i.is c.in_ok-push_formal_faults.ensures c.formals.invariant
