-- The version that `Precursor` runs serves on objects, and creation flow follows it.
use Rattle.std.proofs.Common.{◌≡◌, ℕ, Bool, true, false, List, [], ◌∷◌, map, Option, Some, refl, sym, ap, subst, ◌∙◌}
use Rattle.std.proofs.lemmas.Option.{same_Some}
use Rattle.std.specs.List.{filter}
use Rattle.std.specs.Option.{option_map, option_or}
use Rattle.std.specs.Prelude.{cond}
use Rattle.eif_classes.specs.Entries.{Declaration, Origin, Feature, Entry, entries_of, leading}
use Rattle.eif_classes.specs.Features.{declared_origin, feature_by, is_attribute, is_field, entries, entries_in, feature}
use Rattle.eif_classes.specs.Precursors.{is_precursor, single, precursor}
use Rattle.eif_classes.specs.Signatures.{SignedEntry, declared_signature, signature, signed_entries, signed_entries_in}
use Rattle.eif_classes.specs.Types.{Actuals}
use Rattle.eif_flow_rules.specs.VersionFlows.{precursor_origin}
use Rattle.eif_lineage_laws.proofs.Descending.{lines_of}
use Rattle.eif_lineage_laws.proofs.EachItem.{AllOf}
use Rattle.eif_lineage_laws.proofs.Unfolding.{unfolded}
use Rattle.eif_meaning.specs.System.{system_over}
use Rattle.eif_meaning.specs.Values.{ClassType}
use Rattle.eif_system.specs.Inheritance.{clauses}
use Rattle.eif_system.specs.Lineage.{Ups, line, line_of}
use Rattle.eif_tree.specs.Tree.{KindT, attribute, constant, deferred_body, routine, ClassT}
use Rattle.eif_ancestry.proofs.Members.{is_false}
use Rattle.eif_binding_laws.proofs.Formed.{signed_feature}
use Rattle.eif_binding_laws.proofs.Inherited.{found_made}
use Rattle.eif_binding_laws.proofs.Redeclared.{Redeclares, redeclares}
use Rattle.eif_binding_laws.proofs.Searches.{apart}
use Rattle.eif_binding_laws.proofs.Settings.{IsSetting, IsSignedSetting}
use Rattle.eif_binding_laws.proofs.Signing.{signed_pairs, all_signed, ready}
use Rattle.eif_binding_laws.proofs.Versions.{precursor_serves}
use Rattle.eif_run_laws.specs.ObjectTypes.{IsMade, Over}
use Rattle.eif_run_sound.specs.Bodies.{IsRoutine}
use Rattle.eif_run_sound.specs.UniverseLaws.{OpenTypeLaws, IsVersionFor}
use Rattle.eif_run_features.proofs.Closing.{served_over}

abbrev origin_of : Entry → Origin
origin_of e = e.feature.origin

-- ---- the one entry that is picked

-- of items by their entries, as of the entries
precursor_mapped : (parent : Option (List ℕ)) (xs : List SignedEntry)
    → precursor (λ e. e) parent (map (λ s. s.entry) xs)
    ≡ option_map (λ s. s.entry) (precursor (λ s. s.entry) parent xs)
precursor_mapped parent xs =
    ap single (filtered xs) ∙ one (filter (λ s. is_precursor parent s.entry) xs)
  where
    filtered : (xs : List SignedEntry)
        → filter (λ e. is_precursor parent e) (map (λ s. s.entry) xs)
        ≡ map (λ s. s.entry) (filter (λ s. is_precursor parent s.entry) xs)
    filtered [] = refl
    filtered (x ∷ xs) = go (is_precursor parent x.entry) (filtered xs)
      where
        go : (b : Bool)
            → filter (λ e. is_precursor parent e) (map (λ s. s.entry) xs)
            ≡ map (λ s. s.entry) (filter (λ s. is_precursor parent s.entry) xs)
            → cond b (x.entry ∷ filter (λ e. is_precursor parent e) (map (λ s. s.entry) xs))
            (filter (λ e. is_precursor parent e) (map (λ s. s.entry) xs))
            ≡ map (λ s. s.entry) (cond b (x ∷ filter (λ s. is_precursor parent s.entry) xs)
            (filter (λ s. is_precursor parent s.entry) xs))
        go true e = ap (λ ys. x.entry ∷ ys) e
        go false e = e

    one : (ys : List SignedEntry) → single (map (λ s. s.entry) ys) ≡ option_map (λ s. s.entry) (single ys)
    one [] = refl
    one (y ∷ []) = refl
    one (y ∷ z ∷ zs) = refl

-- it has what all have
picked_has : (P : SignedEntry → Type 0) (parent : Option (List ℕ)) (xs : List SignedEntry) (s : SignedEntry)
    → AllOf P xs
    → precursor (λ s. s.entry) parent xs ≡ Some s
    → P s
picked_has P parent xs s all h = one (filter (λ s. is_precursor parent s.entry) xs) (passing xs all) h
  where
    passing : (xs : List SignedEntry) → AllOf P xs → AllOf P (filter (λ s. is_precursor parent s.entry) xs)
    passing [] all = tt
    passing (x ∷ xs) all = go (is_precursor parent x.entry) (passing xs all.1)
      where
        go : (b : Bool) → AllOf P (filter (λ s. is_precursor parent s.entry) xs)
            → AllOf P (cond b (x ∷ filter (λ s. is_precursor parent s.entry) xs)
            (filter (λ s. is_precursor parent s.entry) xs))
        go true later = (all.0, later)
        go false later = later

    one : (ys : List SignedEntry) → AllOf P ys → single ys ≡ Some s → P s
    one [] all h = cc
    one (y ∷ []) all h = subst P (same_Some y s h) all.0
    one (y ∷ z ∷ zs) all h = cc

-- ---- a routine redefines no field

no_field_declared : (k : KindT) (y : Declaration) → y.tree.kind ≡ k → is_attribute k ≡ false
    → is_field (declared_origin k y) ≡ false
no_field_declared attribute y e h = cc
no_field_declared (constant v) y e h = ap is_attribute e
no_field_declared deferred_body y e h = refl
no_field_declared (routine groups body) y e h = ap is_attribute e

module _ (u : List ClassT) (order : List ℕ) (strict : IsSignedSetting u order) (y : Declaration)
    (r : IsRoutine u y) where
  abbrev set : IsSetting u order
  set = strict.setting

  abbrev k : ℕ
  k = y.class_number

  abbrev ups : Ups
  ups = lines_of u r.text (clauses r.text)

  unfolds : line_of u k ≡ line k r.text ups
  unfolds = unfolded u order set.hierarchy.ordered k r.text r.at

  module _ (parent : Option (List ℕ)) (e : SignedEntry)
      (picked : precursor (λ s. s.entry) parent (signed_entries_in u (line_of u k) y.name) ≡ Some e) where
    here : precursor (λ s. s.entry) parent (signed_entries u r.text ups y.name) ≡ Some e
    here = sym (ap (λ l. precursor (λ s. s.entry) parent (signed_entries_in u l y.name)) unfolds) ∙ picked

    -- the entry that is picked is that which flow picks
    followed : precursor_origin u y parent ≡ Some e.entry.feature.origin
    followed =
        let pairs = signed_pairs u r.text y.name
        (ready u order set k r.text r.at (λ q member. all_signed u order set q)) in
        ap (λ l. option_map origin_of (precursor (λ e. e) parent (entries_of y.name (entries_in l)))) unfolds
        ∙ (ap (λ es. option_map origin_of (precursor (λ e. e) parent es)) (sym pairs.same)
        ∙ ap (option_map origin_of)
        (precursor_mapped parent (signed_entries u r.text ups y.name) ∙ ap (option_map (λ s. s.entry)) here))

    -- it is no field of the parent
    entry_no_field : is_field e.entry.feature.origin ≡ false
    entry_no_field =
        let signed : signature u (line_of u k) y.name ≡ Some (declared_signature u r.text y.tree) =
        ap (λ l. signature u l y.name) unfolds
        ∙ ap (λ o. option_or (option_map (declared_signature u r.text) o)
        (option_map (λ s. s.signature) (leading (λ s. s.entry) (signed_entries u r.text ups y.name)))) r.declares in
        let g = declared_signature u r.text y.tree in
        let f = signed_feature u order set k y.name g signed in
        let m = found_made k r.text ups y.name f.0 (sym (ap (λ l. feature l y.name) unfolds) ∙ f.1) in
        let own : is_field f.0.origin ≡ false =
        ap (λ (f : Feature). is_field f.origin) m.0
        ∙ (ap (λ o. is_field (feature_by k (entries ups) y.name o).origin) r.declares
        ∙ no_field_declared y.tree.kind y refl r.no_field) in
        let v = picked_has (Redeclares u order strict k f.0 g) parent (signed_entries u r.text ups y.name) e
        (redeclares u order strict k r.text r.at y.name f.0 g f.1 signed) here in
        is_false _ (λ t. apart (is_field f.0.origin) (v.field t).0 own)

  pub version : OpenTypeLaws u → (t : ClassType) → IsMade (system_over u) t → (xs : Actuals)
      → Over (system_over u) t k xs
      → (parent : Option (List ℕ)) (e : SignedEntry)
      → precursor (λ e. e.entry) parent (signed_entries_in u (line_of u k) y.name) ≡ Some e
      → IsVersionFor u t y parent xs e
  version types t made xs over parent e picked =
      let p = precursor_serves u order strict k y.name parent e picked in
      record {
        version = p.0;
        version_is = p.1;
        followed = followed parent e picked ∙ ap Some p.1;
        serves = served_over u types order set.hierarchy set.defined t k xs over (types.above t made k xs over) p.0
            e.signature p.2 (sym (ap is_field p.1) ∙ entry_no_field parent e picked);
      }
