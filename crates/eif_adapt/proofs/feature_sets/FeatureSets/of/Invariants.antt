use Rattle.std.proofs.Common.{map, take}
use Rattle.eif_tree.specs.View.{parent_view}
use Rattle.eif_adapt.specs.Adaptations.{feature_view}
use Rattle.eif_adapt.specs.FeatureSets.{AreSetsOf}
use Rattle.eif_adapt.proofs.feature_sets.FeatureSets.of.Given as goal

abbrev pub invariant-features : goal.invariant-features
invariant-features l =
    AreSetsOf (parent_view l.clause.tree.now) (map feature_view (take l.feature-index l.features)) l.sets
