use Rattle.std.proofs.Common.{◌≡◌, map, Ok}
use Rattle.eif_par.proofs.division.all_ok.Given as goal

abbrev pub invariant-loop-result : goal.invariant-loop-result
invariant-loop-result g l = map Ok l.values.items ≡ l.yielded
