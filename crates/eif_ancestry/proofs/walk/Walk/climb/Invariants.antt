use Rattle.std.proofs.Common.{length, ◌-◌}
use Rattle.eif_ancestry.specs.Ancestries.{number_graph}
use Rattle.eif_ancestry.specs.Walks.{IsTidy}
use Rattle.eif_ancestry.proofs.Climbing.{IsWalk}
use Rattle.eif_ancestry.proofs.walk.Walk.climb.Given as goal

abbrev pub invariant-classes : goal.invariant-classes
invariant-classes l = record {
  tidy : IsTidy (length l.graph) l.self.met.items l.self.marks.items;
  walk : IsWalk (number_graph l.graph) l.d l.i l.self.met.items;
}

abbrev pub decreases-classes : goal.decreases-classes
decreases-classes l = length l.graph - l.i
