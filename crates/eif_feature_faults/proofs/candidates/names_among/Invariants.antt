use Rattle.std.proofs.Common.{◌≡◌, ◌++◌, map, drop}
use Rattle.std.specs.List.{filter}
use Rattle.eif_base.specs.Numbering.{is_among}
use Rattle.eif_feature_faults.proofs.candidates.names_among.Given as goal

abbrev pub invariant-names : goal.invariant-names
invariant-names l =
    map (λ n. n.now) l.out.items ++ filter (is_among l.set) (map (λ n. n.now) (drop l.name-index l.names))
    ≡ filter (is_among l.set) (map (λ n. n.now) l.names)
