use Rattle.std.proofs.Common.{sym, ◌∙◌, ap, ◌++◌}
use Rattle.eif_tree.specs.View.{class_view}
use Rattle.eif_universe.specs.ClassesView.{classes_view}
use Rattle.eif_universe.specs.Universes.{given_in}
use Rattle.eif_universe.proofs.RootNumbers.{none_given, one_given}
use Rattle.eif_universe.proofs.root_rules.push_root_faults.Goals as goal

pub returns-in_ok-push_no_root_class-in-None : goal.returns-in_ok-push_no_root_class-in-None
returns-in_ok-push_no_root_class-in-None c =
    c.in_ok-push_no_root_class-in-None.ensures ∙ ap (λ l. c.args.out.now ++ l)
    (sym (none_given (given_in (classes_view c.args.classes.now)) c.args.root.now (sym c.in-None.ensures)))

pub returns-in_ok-push_root_class_faults-in-Some : goal.returns-in_ok-push_root_class_faults-in-Some
returns-in_ok-push_root_class_faults-in-Some c =
    c.in_ok-push_root_class_faults-in-Some.ensures ∙ ap (λ l. c.args.out.now ++ l)
    (sym (one_given (given_in (classes_view c.args.classes.now)) c.args.root.now (class_view c.in-Some.class.now)
    c.in-Some.ensures))
