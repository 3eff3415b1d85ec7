use Rattle.eif_ancestry.proofs.Rising.{rest_rises, rest_listed}
use Rattle.eif_ancestry.proofs.ancestors.Ancestors.from_walk.Goals as goal

pub invariant_of-result : goal.invariant_of-result
invariant_of-result c =
    rest_rises c.args.met.now c.in_ok-above.above.items c.sort_unstable.new.self.items c.requires.distinct
    c.in_ok-above.ensures.items c.sort_unstable.ensures.permutation c.sort_unstable.ensures.sorted

pub returns : goal.returns
returns c =
    rest_listed c.args.met.now c.in_ok-above.above.items c.sort_unstable.new.self.items c.requires.distinct
    c.in_ok-above.ensures.items c.sort_unstable.ensures.permutation c.sort_unstable.ensures.sorted
