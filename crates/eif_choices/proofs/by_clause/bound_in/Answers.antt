use Rattle.std.proofs.Common.{refl, sym, subst}
use Rattle.eif_choices.specs.Candidacy.{IsBoundIn}
use Rattle.eif_choices.proofs.Clauses.{bound_above, bound_itself, unbound}
use Rattle.eif_choices.proofs.Lines.{differ}
use Rattle.eif_choices.proofs.by_clause.bound_in.Goals as goal

pub returns-then-clause-k : goal.returns-then-clause-k
returns-then-clause-k c =
    bound_itself c.args.clause.now c.args.k.0 c.args.feat.0 c.args.feat refl c.if-clause-k.true

pub returns-in-Some : goal.returns-in-Some
returns-in-Some c =
    subst (λ f. IsBoundIn c.args.clause.now c.args.k.0 c.args.feat.0 f) (sym c.bound.ensures)
    (bound_above c.args.clause.now c.args.k.0 c.args.feat.0 c.in-Some.ancestor.now c.in-Some.ensures.found)

pub returns-in-None : goal.returns-in-None
returns-in-None c =
    unbound c.args.clause.now c.args.k.0 c.args.feat.0
    (differ c.args.clause.now.parent.0 c.args.k.0 c.if-clause-k.false) c.in-None.ensures.none
