use Rattle.std.proofs.Common.{◌≡◌, ◌++◌, false, drop}
use Rattle.std.specs.List.{filter}
use Rattle.std.specs.Option.{option_map_or}
use Rattle.std.specs.Prelude.{slice_get}
use Rattle.eif_base.specs.declared.feat_id.FeatId.{FeatId}
use Rattle.eif_feature_faults.specs.Replicated.{keeps}
use Rattle.eif_feature_faults.proofs.replication.kept_among.Given as goal

abbrev pub invariant-features : goal.invariant-features
invariant-features l =
    let is_kept = λ (f : FeatId). option_map_or (λ x. keeps x l.id) (slice_get l.drafts f.0) false in
    l.out.items ++ filter is_kept (drop l.feat-index l.features) ≡ filter is_kept l.features
