use Rattle.std.proofs.Common.{◌≡◌, ℕ, ◌<◌, length, Some}
use Rattle.std.specs.Prelude.{slice_get}
use Rattle.eif_ancestry.proofs.order.numbers_below.Given as goal

abbrev pub invariant-loop-d : goal.invariant-loop-d
invariant-loop-d l = record {
  len : length l.numbers.items ≡ l.d;
  each : (k : ℕ) → k < l.d → slice_get l.numbers.items k ≡ Some k;
}
