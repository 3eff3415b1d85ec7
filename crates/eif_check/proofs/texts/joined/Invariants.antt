use Rattle.std.proofs.Common.{◌≡◌}
use Rattle.std.specs.Prelude.{flat_map}
use Rattle.eif_check.proofs.texts.joined.Given as goal

abbrev pub invariant-pieces : goal.invariant-pieces
invariant-pieces l =
    (l.whole.trees.items ≡ flat_map (λ p. p.trees.items) l.yielded)
    × (l.whole.faults ≡ flat_map (λ p. p.faults) l.yielded)
