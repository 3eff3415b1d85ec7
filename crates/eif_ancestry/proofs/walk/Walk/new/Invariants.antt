use Rattle.std.proofs.Common.{◌≡◌, ℕ, false, length}
use Rattle.eif_ancestry.specs.Walks.{has_mark}
use Rattle.eif_ancestry.proofs.walk.Walk.new.Given as goal

abbrev pub invariant-loop-i : goal.invariant-loop-i
invariant-loop-i l = record {
  long : length l.marks.items ≡ l.i;
  none : (a : ℕ) → has_mark l.marks.items a ≡ false;
}
