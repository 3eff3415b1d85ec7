-- The faults of names by their versions are those by their origins.
use Rattle.std.proofs.Common.{◌≡◌, ℕ, List, [], ◌++◌, map, Option, Some, None, refl, sym, ap, ◌∙◌}
use Rattle.std.specs.Prelude.{slice_get}
use Rattle.std.specs.Option.{option_map, option_map_or}
use Rattle.std.proofs.lemmas.Option.{slice_get-map}
use Rattle.eif_base.specs.declared.fault.Fault.{Fault}
use Rattle.eif_classes.specs.Entries.{Origin, deferred, declared_as, clashing, Feature}
use Rattle.eif_feature_faults.specs.Versions.{HasVersion, version_faults}
use Rattle.eif_feature_rules.specs.FeatureRules.{clashing_name, deferred_name, origin_faults}
use Rattle.eif_heirs.specs.declared.drafts.FeatureDraft.{FeatureDraft}
use Rattle.eif_rows.specs.Matched.{Match}
use Rattle.eif_rows.specs.Versions.{IsVersionIfOne}
use Rattle.eif_rows.specs.declared.version.Version.{Version}
use Rattle.eif_rows.specs.declared.version.Version.TheVariants as v
use Rattle.eif_rows.proofs.Matches.{Match-at}
use Rattle.eif_tree.specs.Tree.{ClassT}

module _ (u : List ClassT) (c : ClassT) where
  faults_are : (n : List ℕ) (r : Option Version) (o : Origin) → IsVersionIfOne u r o
      → version_faults c n r ≡ clashing_name c n o ++ deferred_name c n o
  faults_are n None clashing h = refl
  faults_are n None deferred h = absurd h
  faults_are n None (declared_as x) h = absurd h
  faults_are n (Some v.Deferred) deferred h = refl
  faults_are n (Some v.Deferred) clashing h = absurd h
  faults_are n (Some v.Deferred) (declared_as x) h = absurd h
  faults_are n (Some (v.Attribute id)) (declared_as x) h = refl
  faults_are n (Some (v.Attribute id)) deferred h = absurd h
  faults_are n (Some (v.Attribute id)) clashing h = absurd h
  faults_are n (Some (v.Routine id)) (declared_as x) h = refl
  faults_are n (Some (v.Routine id)) deferred h = absurd h
  faults_are n (Some (v.Routine id)) clashing h = absurd h

  -- of the feature at that place
  pub faults_at : (names : List (List ℕ)) (drafts : List FeatureDraft) (fs : List Feature) (i : ℕ) (r : FeatureDraft)
      → names ≡ map (λ f. f.name) fs → Match (HasVersion u) drafts fs → slice_get drafts i ≡ Some r
      → (f : Feature) × (slice_get fs i ≡ Some f)
      × (option_map_or (λ n. version_faults c n r.version) (slice_get names i) [] ≡ origin_faults c f)
  faults_at names drafts fs i r named h at =
      let p = Match-at (HasVersion u) drafts fs h i r at in
      let f = p.0 in
      let name : slice_get names i ≡ Some f.name =
      ap (λ (ns : List (List ℕ)). slice_get ns i) named
      ∙ (slice_get-map (λ (f : Feature). f.name) fs i ∙ ap (option_map (λ (f : Feature). f.name)) p.1) in (
        f,
        p.1,
        ap (λ (o : Option (List ℕ)). option_map_or (λ n. version_faults c n r.version) o []) name
            ∙ faults_are f.name r.version f.origin p.2,
      )
