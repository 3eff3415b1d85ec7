use Rattle.std.proofs.Common.{◌≡◌, length, Some, refl, subst, arith, rules}
use Rattle.std.specs.Prelude.{slice_get}
use Rattle.std.proofs.lemmas.Option.{slice_get_read}
use Rattle.eif_choices.proofs.Heirs.{above_are, more_classes_so_far, no_classes_so_far}
use Rattle.eif_choices.proofs.above.proper_ancestors.Goals as goal

pub clauses-init : goal.clauses-init
clauses-init c = no_classes_so_far c.args.heir.now c.new-all.result.items (search rules)

pub clauses-preserved : goal.clauses-preserved
clauses-preserved c =
    let h = c.args.heir.now in
    let xs = c.deref-clause-items.result.now in
    more_classes_so_far h c.clauses.clause-index c.clause-item.result c.clauses.all.items c.push_classes.new.out.items
    (subst (λ xs. slice_get xs c.clauses.clause-index ≡ Some c.clause-item.result) c.deref-clause-items.ensures.value
    (slice_get_read xs (length xs) c.clauses.clause-index c.clause-item.result refl c.clauses-test.true
    c.clause-item.is))
    c.in_ok-push_classes.ensures c.clauses.invariant

pub returns : goal.returns
returns c =
    above_are c.args.heir.now c.clauses.clause-index c.clauses.all.items c.ordered_classes.result.items (omega arith)
    c.clauses.invariant c.ordered_classes.ensures
