-- What is kept of a class without a fault is its row.
use Rattle.std.proofs.Common.{◌≡◌, ℕ, List, [], ◌∷◌, ◌++◌, length, map, Option, Some, None, refl, sym, ap, subst, ◌∙◌}
use Rattle.std.proofs.lemmas.List.{length-map}
use Rattle.std.proofs.lemmas.Option.{same_Some}
use Rattle.std.specs.List.{filter, flat_map}
use Rattle.eif_class_rows.specs.ClassRows.{IsJudged, feature_row, row_version}
use Rattle.eif_class_rows.specs.declared.judged.Judged.{Judged}
use Rattle.eif_classes.specs.Descent.{above}
use Rattle.eif_classes.specs.Entries.{Feature, Origin, deferred, declared_as, clashing}
use Rattle.eif_classes.specs.Features.{entries, features, is_field}
use Rattle.eif_feature_rules.specs.DeclarationRules.{declaration_faults}
use Rattle.eif_feature_rules.specs.FeaturePhases.{own_feature_faults}
use Rattle.eif_feature_rules.specs.FeatureRules.{adaptation_faults, clashing_name, deferred_name, origin_faults}
use Rattle.eif_feature_rules.specs.FeatureRules.{count_names, many_ancestor_names, many_names, name_faults}
use Rattle.eif_feature_rules.specs.ReplicationRules.{replication_faults}
use Rattle.eif_feature_rules.specs.RuleForms.{each_clause}
use Rattle.eif_feature_rules.specs.SelectionRules.{selection_faults}
use Rattle.eif_heirs.specs.Clauses.{ups_in}
use Rattle.eif_heirs.specs.Drafts.{IsDraft}
use Rattle.eif_heirs.specs.declared.drafts.FeatureDraft.{FeatureDraft}
use Rattle.eif_lineage_laws.proofs.NoFaults.{none_left, none_right}
use Rattle.eif_rows.proofs.Matches.{Match-weaken, length-Match}
use Rattle.eif_rows.specs.AncestorRows.{IsAncestorRow}
use Rattle.eif_rows.specs.Matched.{Match}
use Rattle.eif_rows.specs.Numbers.{names_of}
use Rattle.eif_rows.specs.Rows.{IsFeatureRow, IsRow}
use Rattle.eif_rows.specs.Versions.{IsVersion, IsVersionIfOne}
use Rattle.eif_rows.specs.declared.row.Row.{Row}
use Rattle.eif_rows.specs.declared.version.Version.{Version}
use Rattle.eif_system.specs.Lineage.{line, Ups, line_of}
use Rattle.eif_tree.specs.Tree.{ClassT}
use Rattle.eif_tree.specs.View.{class_view}

-- ---- rows of features

-- where no versions clash the version of the draft is the version of the row
sole_version : (u : List ClassT) (c : ClassT) (n : List ℕ) (v : Option Version) (o : Origin) → IsVersionIfOne u v o →
    clashing_name c n o ≡ [] → IsVersion u (row_version v) o
sole_version u c n (Some v) o is none = is
sole_version u c n None deferred is none = absurd is
sole_version u c n None (declared_as x) is none = absurd is
sole_version u c n None clashing is none = absurd (cc)

-- the drafts of names without a fault become rows
rows_are : (u : List ClassT) (d : ℕ) (c : ClassT) (xs : List FeatureDraft) (fs : List Feature) →
    Match (IsDraft u d c) xs fs → flat_map (origin_faults c) fs ≡ [] →
    Match (IsFeatureRow u d c) (map feature_row xs) fs
rows_are u d c [] [] is none = tt
rows_are u d c [] (f ∷ fs) is none = absurd is
rows_are u d c (x ∷ xs) [] is none = absurd is
rows_are u d c (x ∷ xs) (f ∷ fs) is none = (
  record {
    version = sole_version u c f.name x.version f.origin is.0.version
        (none_left (clashing_name c f.name f.origin) (deferred_name c f.name f.origin)
        (none_left (origin_faults c f) (flat_map (origin_faults c) fs) none));
    source = is.0.source;
    clients = is.0.clients;
    declared = is.0.declared;
  },
  rows_are u d c xs fs is.1 (none_right (origin_faults c f) (flat_map (origin_faults c) fs) none),
)

-- a class without a fault has none by the origins of its names
no_origin_fault : (u : List ClassT) (d : ℕ) (c : ClassT) (ups : Ups) → own_feature_faults u (line d c ups) ≡ [] →
    flat_map (origin_faults c) (features (line d c ups)) ≡ []
no_origin_fault u d c ups none =
    let l = line d c ups in
    let adaptations = each_clause (adaptation_faults c) ups in
    let declarations = declaration_faults u c (entries ups) in
    let counts = map (count_names u) (above l) in
    let origins = flat_map (origin_faults c) (features l) in
    let selections = selection_faults u c ups (above l) in
    let before : adaptations ++ declarations ++ name_faults u c (features l) (above l) ≡ [] =
    none_left (adaptations ++ declarations ++ name_faults u c (features l) (above l)) selections
    (none_left (adaptations ++ declarations ++ name_faults u c (features l) (above l) ++ selections)
    (replication_faults u c l (above l)) none) in
    none_left origins (many_names c (length (features l)))
    (none_left (origins ++ many_names c (length (features l))) (many_ancestor_names c counts)
    (none_right (adaptations ++ declarations) (name_faults u c (features l) (above l)) before))

-- ---- the row of a class

-- what is kept of the class
pub record IsKept (j : Judged) (r : Row) : Type 0 where
  pub names_are : r.names.items ≡ j.heir.names.items
  pub features_are : r.features.items ≡ map feature_row j.drafts.items
  pub fields_are : (u : List ClassT) (fs : List Feature)
      → Match (λ x f. IsVersion u x.version f.origin) r.features.items fs
      → names_of (map (λ f. f.name) fs) r.fields.items ≡ map (λ f. Some f.name) (filter (λ f. is_field f.origin) fs)
  pub ancestors_are : r.ancestors.items ≡ j.choices.ancestors.items

-- the names of features as names that are there
map_Some : (fs : List Feature) → map Some (map (λ f. f.name) fs) ≡ map (λ f. Some f.name) fs
map_Some [] = refl
map_Some (f ∷ fs) = ap (λ ns. Some f.name ∷ ns) (map_Some fs)

module _ (u : List ClassT) (j : Judged) (is : IsJudged u j.heir.class_id.0 j) where
  -- the number and the text of the class
  abbrev d : ℕ
  d = j.heir.class_id.0

  abbrev c : ClassT
  c = class_view j.heir.tree.now

  -- its features, if it has no fault
  features_kept : j.faults ≡ [] → Match (IsFeatureRow u d c) (map feature_row j.drafts.items) (features (line_of u d))
  features_kept none =
      let line = is.heir_is.line_is in
      rows_are u d c j.drafts.items (features (line_of u d)) is.drafts_are
      (ap (λ l. flat_map (origin_faults c) (features l)) line
      ∙ no_origin_fault u d c (ups_in u c) (sym (ap (own_feature_faults u) line) ∙ (sym is.faults_are ∙ none)))

  -- its row, if it has no fault
  row_kept : j.faults ≡ [] → (r : Row) → IsKept j r → IsRow u d r
  row_kept none r kept =
      let fs = features (line_of u d) in
      let rows = subst (λ xs. Match (IsFeatureRow u d c) xs fs) (sym kept.features_are) (features_kept none) in
      record {
        names_are = kept.names_are ∙ is.heir_is.names_are;
        features_are = λ x at. subst (λ x. Match (IsFeatureRow u d x) r.features.items fs)
            (same_Some c x (sym is.heir_is.class_is ∙ at)) rows;
        fields_are = kept.fields_are u fs (Match-weaken (IsFeatureRow u d c) (λ x f. IsVersion u x.version f.origin)
            (λ x f is. is.version) r.features.items fs rows)
            ∙ sym (map_Some (filter (λ f. is_field f.origin) fs));
        ancestors_are = subst (λ xs. Match (IsAncestorRow u (line_of u d)) xs (above (line_of u d)))
            (sym kept.ancestors_are) is.choices_are.ancestors_are;
      }

  -- it has as many drafts as names
  drafts_count : length j.drafts.items ≡ length j.heir.names.items
  drafts_count =
      length-Match (IsDraft u d c) j.drafts.items (features (line_of u d)) is.drafts_are
      ∙ sym (ap length is.heir_is.names_are ∙ length-map (features (line_of u d)) (λ (f : Feature). f.name))

-- ---- by the number of the class

module _ (u : List ClassT) (d : ℕ) (j : Judged) (is : IsJudged u d j) where
  -- what is judged of the class d is judged by the number of the heir
  own_number : IsJudged u j.heir.class_id.0 j
  own_number = subst (λ d. IsJudged u d j) (sym is.class_is) is

  -- the row of a class without a fault
  pub row_judged : j.faults ≡ [] → (r : Row) → IsKept j r → IsRow u d r
  row_judged none r kept = subst (λ d. IsRow u d r) is.class_is (row_kept u j own_number none r kept)

  -- it has as many drafts as names
  pub drafts_judged : length j.drafts.items ≡ length j.heir.names.items
  drafts_judged = drafts_count u j own_number
