use Rattle.std.proofs.Common.{◌≡◌, ℕ, List, length, drop, ◌++◌}
use Rattle.std.specs.Prelude.{◌||◌}
use Rattle.eif_system.specs.Graph.{is_member}
use Rattle.eif_ancestry.specs.Walks.{IsTidy}
use Rattle.eif_ancestry.proofs.walk.Walk.meet_all.Given as goal

abbrev pub invariant-loop-p : goal.invariant-loop-p
invariant-loop-p l = record {
  tidy : IsTidy (length l.initial.self.marks.items) l.self.met.items l.self.marks.items;
  members : (a : ℕ) → (is_member a l.self.met.items || is_member a (drop l.p-index l.parents))
      ≡ (is_member a l.initial.self.met.items || is_member a l.parents);
  more : (more : List ℕ) × (l.self.met.items ≡ l.initial.self.met.items ++ more);
}
