use Rattle.std.proofs.Common.{◌≡◌, length, Some, refl, subst, arith, rules}
use Rattle.std.specs.Prelude.{slice_get}
use Rattle.std.proofs.lemmas.Option.{slice_get_read}
use Rattle.eif_choices.specs.Candidacy.{Adds, reached_by}
use Rattle.eif_choices.proofs.Heirs.{more_so_far, none_so_far, reached_are}
use Rattle.eif_choices.proofs.by_heir.reached_of.Goals as goal

pub clauses-init : goal.clauses-init
clauses-init c = none_so_far (reached_by c.args.k.0) c.args.heir.now c.args.k.0 c.args.feat.0 c.new-all.result.items
    (search rules)

pub clauses-preserved : goal.clauses-preserved
clauses-preserved c =
    let h = c.args.heir.now in
    let xs = c.deref-clause-items.result.now in
    more_so_far (reached_by c.args.k.0) h c.args.k.0 c.args.feat.0 c.clauses.number c.clause-item.result
    c.clauses.all.items c.push_reached.new.out.items
    (subst (λ xs. slice_get xs c.clauses.number ≡ Some c.clause-item.result) c.deref-clause-items.ensures.value
    (slice_get_read xs (length xs) c.clauses.number c.clause-item.result refl c.clauses-test.true c.clause-item.is))
    (subst (λ fs. Adds (reached_by c.args.k.0) c.clause-item.result fs c.args.k.0 c.args.feat.0 c.clauses.all.items
    c.push_reached.new.out.items) c.finals_of.ensures c.in_ok-push_reached.ensures)
    c.clauses.invariant

pub returns : goal.returns
returns c =
    reached_are c.args.heir.now c.args.k.0 c.args.feat.0 c.clauses.number (omega arith) c.clauses.all.items
    c.ordered_features.result.items c.clauses.invariant c.ordered_features.ensures
