use Rattle.std.proofs.Common.{◌≡◌, map, drop}
use Rattle.std.specs.List.{list_all}
use Rattle.std.specs.Str.{bytes_eq}
use Rattle.eif_feature_faults.proofs.candidates.are_several.Given as goal

abbrev pub invariant-rest : goal.invariant-rest
invariant-rest l =
    list_all (bytes_eq l.first.now) (map (λ n. n.now) (drop l.name-index l.rest))
    ≡ list_all (bytes_eq l.first.now) (map (λ n. n.now) l.rest)
