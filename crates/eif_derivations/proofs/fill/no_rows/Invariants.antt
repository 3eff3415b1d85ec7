use Rattle.std.proofs.Common.{◌≡◌, length}
use Rattle.eif_derivations.proofs.fill.no_rows.Given as goal

abbrev pub invariant-classes : goal.invariant-classes
invariant-classes l = length l.rows.items ≡ l.counter
