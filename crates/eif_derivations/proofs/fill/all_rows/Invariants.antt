use Rattle.std.proofs.Common.{◌≡◌, map, Some}
use Rattle.eif_derivations.proofs.fill.all_rows.Given as goal

abbrev pub invariant-rows : goal.invariant-rows
invariant-rows l = map Some l.all.items ≡ l.yielded
