use Rattle.eif_universe.proofs.Reaching.{reached}
use Rattle.eif_universe.proofs.inheritance.reaches.Goals as goal

pub returns-else-d-a : goal.returns-else-d-a
returns-else-d-a c = λ g are.
    reached g c.args.ancestors.now c.args.d c.args.a c.index-ancestors-d.result c.has.result are
    c.requires c.index-ancestors-d.is c.if-d-a.false c.has.ensures
