use Rattle.std.proofs.Common.{◌≡◌, ℕ, length, drop, not}
use Rattle.std.specs.Prelude.{◌&&◌}
use Rattle.eif_system.specs.Graph.{is_member}
use Rattle.eif_ancestry.specs.Walks.{has_mark}
use Rattle.eif_ancestry.proofs.walk.unmark.Given as goal

abbrev pub invariant-loop-a : goal.invariant-loop-a
invariant-loop-a l = record {
  long : length l.marks.items ≡ length l.initial.marks.items;
  marks : (a : ℕ) → (has_mark l.marks.items a && not (is_member a (drop l.a-index l.classes)))
      ≡ (has_mark l.initial.marks.items a && not (is_member a l.classes));
}
