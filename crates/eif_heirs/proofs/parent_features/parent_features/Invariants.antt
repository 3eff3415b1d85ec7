use Rattle.std.proofs.Common.{◌≡◌, ◌++◌, map}
use Rattle.std.specs.Iterator.Adapters.{zip_first, zip_second}
use Rattle.std.specs.Slice.Iter.{iter_rest}
use Rattle.eif_adapt.specs.Adaptations.{feature_view}
use Rattle.eif_heirs.specs.SeenFeatures.{seen_features}
use Rattle.eif_heirs.proofs.parent_features.parent_features.Given as goal

abbrev pub invariant-names : goal.invariant-names
invariant-names l =
    map feature_view l.features.items
    ++ seen_features (iter_rest (zip_first l.name-iterator)) (iter_rest (zip_second l.name-iterator))
    ≡ seen_features l.row.names.items l.row.features.items
