-- The names of the features of a clause's class, as sets.
use Rattle.std.specs.Prelude.{◌≡◌, ℕ, List}
use Rattle.eif_base.specs.Numbering.{is_among}
use Rattle.eif_tree.specs.Tree.{ParentT}
use Rattle.eif_feature_rules.specs.ParentFeatures.{ParentFeature, is_deferred_feature, is_attribute_feature, parent_names, final_names, has_entry}
use Rattle.eif_adapt.specs.declared.feature_sets.FeatureSets.{FeatureSets}

pub record AreSetsOf (p : ParentT) (fs : List ParentFeature) (s : FeatureSets) : Type 0 where
  pub parents : (n : List ℕ) → is_among s.parents n ≡ is_among (parent_names fs) n
  pub finals : (n : List ℕ) → is_among s.finals n ≡ is_among (final_names p fs) n
  pub attributes : (n : List ℕ) → is_among s.attributes n ≡ has_entry is_attribute_feature p fs n
  pub deferred : (n : List ℕ) → is_among s.deferred n ≡ has_entry is_deferred_feature p fs n
