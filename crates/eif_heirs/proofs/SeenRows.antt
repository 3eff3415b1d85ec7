-- The features of a class as its heirs see them are those of its row.
use Rattle.std.proofs.Common.{◌≡◌, ℕ, List, [], ◌∷◌, map, Some, refl, sym, ap, ap₂, ◌∙◌, ◌⊎◌, ⊎_elim}
use Rattle.std.specs.Prelude.{if◌then◌else◌, slice_get}
use Rattle.eif_classes.specs.Entries.{Origin, deferred, declared_as, clashing, Feature}
use Rattle.eif_classes.specs.Features.{features}
use Rattle.eif_feature_rules.specs.ParentFeatures.{ParentFeature, attribute_feature, routine_feature, parent_state, parent_feature, parent_features}
use Rattle.eif_heirs.specs.AdaptedClauses.{row_features}
use Rattle.eif_heirs.specs.SeenFeatures.{seen_state, seen_features}
use Rattle.eif_rows.specs.Matched.{Match}
use Rattle.eif_rows.specs.Rows.{IsFeatureRow, IsRow}
use Rattle.eif_rows.specs.Versions.{IsVersion}
use Rattle.eif_rows.specs.declared.feature.FeatureRow.{FeatureRow}
use Rattle.eif_rows.specs.declared.row.Row.{Row}
use Rattle.eif_rows.specs.declared.version.Version.{Version}
use Rattle.eif_rows.specs.declared.version.Version.TheVariants as v
use Rattle.eif_system.specs.Lineage.{line_of}
use Rattle.eif_tree.specs.Tree.{ClassT}

-- nothing is left where one of the lists is at its end
pub seen_end : (ns : List (List ℕ)) (rows : List FeatureRow) → (ns ≡ []) ⊎ (rows ≡ []) → seen_features ns rows ≡ []
seen_end [] rows h = refl
seen_end (n ∷ ns) [] h = refl
seen_end (n ∷ ns) (r ∷ rows) h = ⊎_elim (λ (e : n ∷ ns ≡ []). cc) (λ (e : r ∷ rows ≡ []). cc) h

seen_state_is : (u : List ClassT) (x : Version) (o : Origin) → IsVersion u x o → seen_state x ≡ parent_state o
seen_state_is u v.Deferred deferred h = refl
seen_state_is u v.Deferred (declared_as x) h = absurd h
seen_state_is u v.Deferred clashing h = absurd h
seen_state_is u (v.Attribute id) deferred h = absurd h
seen_state_is u (v.Attribute id) (declared_as x) h =
    sym (ap (λ b. if b then attribute_feature else routine_feature) h.1)
seen_state_is u (v.Attribute id) clashing h = absurd h
seen_state_is u (v.Routine id) deferred h = absurd h
seen_state_is u (v.Routine id) (declared_as x) h =
    sym (ap (λ b. if b then attribute_feature else routine_feature) h.1)
seen_state_is u (v.Routine id) clashing h = absurd h

seen_rows : (u : List ClassT) (d : ℕ) (c : ClassT) (rows : List FeatureRow) (fs : List Feature)
    → Match (IsFeatureRow u d c) rows fs → seen_features (map (λ f. f.name) fs) rows ≡ map parent_feature fs
seen_rows u d c [] [] h = refl
seen_rows u d c [] (f ∷ fs) h = absurd h
seen_rows u d c (r ∷ rows) [] h = absurd h
seen_rows u d c (r ∷ rows) (f ∷ fs) h =
    ap₂ (λ s (xs : List ParentFeature). record { name = f.name; state = s } ∷ xs)
    (seen_state_is u r.version f.origin h.0.version) (seen_rows u d c rows fs h.1)

pub row_features_are : (u : List ClassT) (d : ℕ) (c : ClassT) (r : Row) → slice_get u d ≡ Some c → IsRow u d r
    → row_features r ≡ parent_features (line_of u d)
row_features_are u d c r at h =
    ap (λ ns. seen_features ns r.features.items) h.names_are
    ∙ seen_rows u d c r.features.items (features (line_of u d)) (h.features_are c at)
