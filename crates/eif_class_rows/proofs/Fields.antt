-- The features that are fields, one after the other.
use Rattle.std.proofs.Common.{◌≡◌, ℕ, ◌+◌, Bool, true, false, cond, List, [], ◌∷◌, ◌++◌, map, take, Some, Option}
use Rattle.std.proofs.Common.{refl, sym, ap, ap₂, ◌∙◌}
use Rattle.std.proofs.lemmas.List.{append-nil, map-append}
use Rattle.std.proofs.lemmas.List.Elements.{filter-append}
use Rattle.std.proofs.lemmas.Option.{slice_get-map}
use Rattle.std.specs.List.{filter}
use Rattle.std.specs.Option.{option_map}
use Rattle.std.specs.Prelude.{slice_get, if◌then◌else◌}
use Rattle.eif_base.specs.declared.feat_id.FeatId.{FeatId}
use Rattle.eif_classes.specs.Entries.{Feature}
use Rattle.eif_classes.specs.Features.{is_field}
use Rattle.eif_feature_faults.proofs.InTurn.{take-next}
use Rattle.eif_rows.proofs.Matches.{Match-at}
use Rattle.eif_rows.proofs.VersionLaws.{is_attribute-origin}
use Rattle.eif_rows.specs.Matched.{Match}
use Rattle.eif_rows.specs.Numbers.{names_of}
use Rattle.eif_rows.specs.Versions.{IsVersion, is_attribute_version}
use Rattle.eif_rows.specs.declared.feature.FeatureRow.{FeatureRow}
use Rattle.eif_tree.specs.Tree.{ClassT}

-- the names of the features that are fields
abbrev pub field_names : List Feature → List (Option (List ℕ))
field_names fs = map (λ f. Some f.name) (filter (λ f. is_field f.origin) fs)

-- the fields among features with one more at the end
fields_push : (fs : List Feature) (f : Feature) → field_names (fs ++ f ∷ []) ≡ field_names fs ++ field_names (f ∷ [])
fields_push fs f =
    ap (map (λ (f : Feature). Some f.name)) (filter-append (λ (f : Feature). is_field f.origin) fs (f ∷ []))
    ∙ map-append (λ (f : Feature). Some f.name) (filter (λ f. is_field f.origin) fs)
    (filter (λ f. is_field f.origin) (f ∷ []))

-- the numbers of the fields among the first features
abbrev pub AreFields : List Feature → ℕ → List FeatId → Type 0
AreFields fs i ids = names_of (map (λ f. f.name) fs) ids ≡ field_names (take i fs)

module _ (u : List ClassT) (rows : List FeatureRow) (fs : List Feature)
    (match : Match (λ r f. IsVersion u r.version f.origin) rows fs) (i : ℕ) (r : FeatureRow)
    (at : slice_get rows i ≡ Some r) (ids : List FeatId) (are : AreFields fs i ids) where
  -- the feature with this row
  feature_here : (f : Feature) × (slice_get fs i ≡ Some f) × IsVersion u r.version f.origin
  feature_here = Match-at (λ (r : FeatureRow) (f : Feature). IsVersion u r.version f.origin) rows fs match i r at

  -- the fields with this feature too, if it is one
  fields_next : (b : Bool) → is_attribute_version r.version ≡ b →
      field_names (take (i + 1) fs) ≡ field_names (take i fs) ++ (if b then Some feature_here.0.name ∷ [] else [])
  fields_next b e =
      let f = feature_here.0 in
      ap field_names (take-next fs i f feature_here.1)
      ∙ (fields_push (take i fs) f
      ∙ ap (λ ns. field_names (take i fs) ++ ns)
      (ap (λ b. map (λ (f : Feature). Some f.name) (cond b (f ∷ []) []))
      (sym (is_attribute-origin u r.version f.origin feature_here.2) ∙ e) ∙ one b))
    where
      one : (b : Bool) → map (λ (f : Feature). Some f.name) (cond b (feature_here.0 ∷ []) [])
          ≡ (if b then Some feature_here.0.name ∷ [] else [])
      one true = refl
      one false = refl

  -- its number is one more
  pub field_more : is_attribute_version r.version ≡ true → AreFields fs (i + 1) (ids ++ record { 0 = i } ∷ [])
  field_more e =
      let ns = map (λ (f : Feature). f.name) fs in
      map-append (λ (x : FeatId). slice_get ns x.0) ids (record { 0 = i } ∷ [])
      ∙ (ap₂ ◌++◌ are (ap (λ n. n ∷ [])
      (slice_get-map (λ (f : Feature). f.name) fs i ∙ ap (option_map (λ (f : Feature). f.name)) feature_here.1))
      ∙ sym (fields_next true e))

  -- where it is none nothing changes
  pub no_field_more : is_attribute_version r.version ≡ false → AreFields fs (i + 1) ids
  no_field_more e = are ∙ (sym (append-nil (field_names (take i fs))) ∙ sym (fields_next false e))
