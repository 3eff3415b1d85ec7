use Rattle.std.proofs.Common.{true, ◌∙◌, ◌++◌, ap}
use Rattle.eif_rules.specs.FaultForms.{fault_where}
use Rattle.eif_tree.specs.View.{class_view}
use Rattle.eif_universe.specs.ClassesView.{classes_view}
use Rattle.eif_universe.proofs.Told.{adds_own, adds_repeated}
use Rattle.eif_universe.proofs.judge.push_class_faults.Goals as goal

pub returns-then-is_repeated : goal.returns-then-is_repeated
returns-then-is_repeated c = adds_repeated (classes_view c.args.classes.now) c.args.d (class_view c.args.class.now)
    c.args.is_repeated c.args.out.now c.push_where.new.out c.requires.repeated c.if-is_repeated.true
    (c.in_ok-push_where.ensures ∙ ap (λ f. c.args.out.now ++ fault_where true f) c.of.ensures)

pub returns : goal.returns
returns c = adds_own (classes_view c.args.classes.now) c.args.d (class_view c.args.class.now)
    c.args.is_repeated c.args.out.now c.push_own_faults.new.out c.requires.repeated c.if-is_repeated.false
    c.in_ok-push_own_faults.ensures
