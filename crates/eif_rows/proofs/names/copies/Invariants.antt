use Rattle.std.proofs.Common.{◌≡◌, map, take}
use Rattle.eif_rows.proofs.names.copies.Given as goal

abbrev pub invariant-names : goal.invariant-names
invariant-names l = l.out.items ≡ map (λ n. n.now) (take l.name-index l.names)
