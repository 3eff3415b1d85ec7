use Rattle.std.proofs.Common.{sym, ◌∙◌}
use Rattle.eif_universe.specs.ClassesView.{classes_view}
use Rattle.eif_universe.proofs.RootNumbers.{root_at, root_of_kernel, root_unknown}
use Rattle.eif_universe.proofs.root_rules.root_class.Goals as goal

pub returns : goal.returns
returns c = c.class_at.ensures ∙ root_at (classes_view c.args.classes.now) c.args.root.now c.requires
    c.in_ok-number.number (sym c.in_ok-number.ensures) c.if-number-lt-KERNEL_COUNT.false

pub returns-then-number-lt-KERNEL_COUNT : goal.returns-then-number-lt-KERNEL_COUNT
returns-then-number-lt-KERNEL_COUNT c = sym (root_of_kernel (classes_view c.args.classes.now) c.args.root.now c.requires
    c.in_ok-number.number (sym c.in_ok-number.ensures) c.if-number-lt-KERNEL_COUNT.true)

pub returns-in_err-number : goal.returns-in_err-number
returns-in_err-number c = rw c.from_residual.ensures
    (sym (root_unknown (classes_view c.args.classes.now) c.args.root.now c.requires (sym c.in_err-number.ensures)))
