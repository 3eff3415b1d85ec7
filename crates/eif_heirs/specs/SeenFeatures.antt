-- The features of a class as the parent clauses of its heirs see them, by what is kept of it.
use Rattle.std.specs.Prelude.{ℕ, List, [], ◌∷◌}
use Rattle.eif_feature_rules.specs.ParentFeatures.{ParentState, deferred_feature, attribute_feature, routine_feature, ParentFeature}
use Rattle.eif_rows.specs.declared.feature.FeatureRow.{FeatureRow}
use Rattle.eif_rows.specs.declared.version.Version.{Version}
use Rattle.eif_rows.specs.declared.version.Version.TheVariants as v

-- what a class has by a version
abbrev pub seen_state : Version → ParentState
seen_state v.Deferred = deferred_feature
seen_state (v.Attribute id) = attribute_feature
seen_state (v.Routine id) = routine_feature

-- the features with these names and rows
abbrev pub seen_features : List (List ℕ) → List FeatureRow → List ParentFeature
seen_features [] rows = []
seen_features (n ∷ ns) [] = []
seen_features (n ∷ ns) (r ∷ rows) = record { name = n; state = seen_state r.version } ∷ seen_features ns rows
