use Rattle.std.proofs.Common.{◌≡◌, ◌++◌, map, drop, Some}
use Rattle.eif_rows.specs.Numbers.{names_of}
use Rattle.eif_feature_faults.proofs.candidates.names_at.Given as goal

abbrev pub invariant-features : goal.invariant-features
invariant-features l =
    map (λ n. Some n.now) l.out.items ++ names_of l.names (drop l.feat-index l.features) ≡ names_of l.names l.features
