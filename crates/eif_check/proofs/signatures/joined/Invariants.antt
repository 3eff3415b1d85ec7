use Rattle.std.proofs.Common.{◌≡◌}
use Rattle.std.specs.Prelude.{flat_map}
use Rattle.eif_check.proofs.signatures.joined.Given as goal

abbrev pub invariant-pieces : goal.invariant-pieces
invariant-pieces l = l.faults ≡ flat_map (λ q. q) l.yielded
