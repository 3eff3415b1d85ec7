use Rattle.std.proofs.Common.{◌≡◌, subst, drop, List, ℕ, true}
use Rattle.eif_system.specs.Graph.{is_member}
use Rattle.eif_ancestry.specs.Ancestries.{number_graph, IsRisingListOf}
use Rattle.eif_ancestry.proofs.Climbing.{ancestors_are}
use Rattle.eif_ancestry.proofs.walk.Walk.ancestors_of.Goals as goal

pub returns-clause-ancestors : goal.returns-clause-ancestors
returns-clause-ancestors c =
    let e = c.in_ok-climb.ensures in
    ancestors_are (number_graph c.args.graph.now) c.args.d c.climb.new.self.met.items c.in_ok-ancestors.ancestors
    e.tidy.distinct e.whole
    (subst (λ (ys : List ℕ). IsRisingListOf (λ a. is_member a (drop 1 ys) ≡ true) c.in_ok-ancestors.ancestors)
    c.as_slice.ensures.value c.in_ok-ancestors.ensures)
