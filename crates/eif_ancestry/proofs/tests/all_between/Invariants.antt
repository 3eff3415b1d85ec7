use Rattle.std.proofs.Common.{ℕ, ◌<◌, ◌≤◌, get_or}
use Rattle.eif_ancestry.proofs.tests.all_between.Given as goal

abbrev pub invariant-loop-n : goal.invariant-loop-n
invariant-loop-n l = (k : ℕ) → k < l.n-index → (l.low ≤ get_or l.numbers k 0) × (get_or l.numbers k 0 < l.high)
