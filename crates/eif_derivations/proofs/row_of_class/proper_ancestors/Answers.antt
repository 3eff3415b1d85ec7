use Rattle.std.proofs.Common.{length, refl}
use Rattle.std.proofs.lemmas.Option.{slice_get_read}
use Rattle.eif_derivations.proofs.ClausesInTurn.{above_are, more_classes_so_far}
use Rattle.eif_derivations.proofs.row_of_class.proper_ancestors.Goals as goal

pub clauses-preserved : goal.clauses-preserved
clauses-preserved c =
    let xs = c.args.clauses.now in
    let j = c.clauses.clause-index in
    let x = c.clause-item.result in
    more_classes_so_far xs j x c.clauses.all.items c.push_classes.new.out.items
    (slice_get_read xs (length xs) j x refl c.clauses-test.true c.clause-item.is) c.in_ok-push_classes.ensures
    c.clauses.invariant

pub returns : goal.returns
returns c =
    above_are c.args.clauses.now c.clauses.clause-index c.clauses.all.items c.ordered_classes.result.items
    c.clauses-test.false c.clauses.invariant c.ordered_classes.ensures
