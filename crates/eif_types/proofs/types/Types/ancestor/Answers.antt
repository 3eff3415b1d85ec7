use Rattle.eif_types.proofs.TypesIn.{down_where_some}
use Rattle.eif_types.proofs.types.Types.ancestor.Goals as goal

pub returns-clause-some : goal.returns-clause-some
returns-clause-some c =
    down_where_some c.args.self.now c.args.c.0 c.args.k.0 c.given.result
    (λ u are. c.given.ensures u are.system are.derivations_are)
