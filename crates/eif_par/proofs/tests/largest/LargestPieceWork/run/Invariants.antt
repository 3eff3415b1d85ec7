use Rattle.std.proofs.Common.{ℕ, ◌<◌, ◌≤◌, IsSomeAnd, slice_index}
use Rattle.eif_par.proofs.tests.largest.LargestPieceWork.run.Given as goal

abbrev pub invariant-loop-i : goal.invariant-loop-i
invariant-loop-i l = (k : ℕ) → l.first ≤ k → k < l.i → IsSomeAnd l.best (λ n. slice_index l.self.numbers.now k ≤ n)
