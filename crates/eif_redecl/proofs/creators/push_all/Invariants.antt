use Rattle.std.proofs.Common.{◌≡◌, ◌++◌, map, drop}
use Rattle.eif_redecl.proofs.creators.push_all.Given as goal

abbrev pub invariant-names : goal.invariant-names
invariant-names l =
    map (λ n. n.now) l.out.items ++ drop l.name-index l.names ≡ map (λ n. n.now) l.initial.out.items ++ l.names
