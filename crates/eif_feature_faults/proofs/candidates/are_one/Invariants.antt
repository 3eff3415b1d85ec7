use Rattle.std.proofs.Common.{◌≡◌, drop}
use Rattle.std.specs.Prelude.{◌==◌}
use Rattle.std.specs.List.{list_all}
use Rattle.eif_feature_faults.proofs.candidates.are_one.Given as goal

abbrev pub invariant-rest : goal.invariant-rest
invariant-rest l =
    list_all (λ g. l.first.0 == g.0) (drop l.feat-index l.rest) ≡ list_all (λ g. l.first.0 == g.0) l.rest
