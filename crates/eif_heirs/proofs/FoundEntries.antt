-- What an heir has of an entry by its number is what the clause makes of the feature in its parent.
use Rattle.std.proofs.Common.{◌≡◌, ℕ, zero, suc, Bool, true, false, List, [], ◌∷◌, Option, Some, None, refl, sym, ap, ap₂, subst, ◌∙◌}
use Rattle.std.specs.Prelude.{slice_get, not, ◌&&◌}
use Rattle.std.specs.Option.{option_and_then, option_map, option_map_or}
use Rattle.std.proofs.lemmas.Option.{same_Some, option_and_then_some}
use Rattle.eif_adapt.specs.Adaptations as the
use Rattle.eif_adapt.specs.Adaptations.{entry_view}
use Rattle.eif_adapt.specs.declared.adapted.AdaptedEntry.{AdaptedEntry}
use Rattle.eif_classes.specs.Clients.{export_item}
use Rattle.eif_classes.specs.Entries.{Entry, Feature, entry, is_effective, lasts}
use Rattle.eif_classes.specs.Features.{features}
use Rattle.eif_classes.specs.Names.{is_redefined, is_undefined}
use Rattle.eif_feature_rules.specs.DeclarationRules.{is_kept}
use Rattle.eif_feature_rules.specs.ParentFeatures.{parent_feature}
use Rattle.eif_heirs.specs.Clauses.{IsClause, clause_at, entry_at, ups_in}
use Rattle.eif_heirs.specs.EntryParts.{adapted_at, is_redefined_at, lasts_at, row_at, version_at}
use Rattle.eif_heirs.specs.Heirs.{IsHeir}
use Rattle.eif_heirs.specs.declared.clauses.Clause.{Clause}
use Rattle.eif_heirs.specs.declared.heir.EntryId.{EntryId}
use Rattle.eif_heirs.specs.declared.heir.Heir.{Heir}
use Rattle.eif_heirs.proofs.Texts.{line_up, map_twice}
use Rattle.eif_lineage_laws.proofs.Numbers.{parent_within}
use Rattle.eif_lineage_laws.proofs.Unfolding.{class_within}
use Rattle.eif_rows.specs.Matched.{Match}
use Rattle.eif_rows.specs.Rows.{IsFeatureRow}
use Rattle.eif_rows.specs.Versions.{IsVersion}
use Rattle.eif_rows.specs.declared.feature.FeatureRow.{FeatureRow}
use Rattle.eif_rows.specs.declared.version.Version.TheVariants as v
use Rattle.eif_rows.proofs.Matches.{Match-at_second, Match-from_map}
use Rattle.eif_rows.proofs.VersionLaws.{is_deferred-origin}
use Rattle.eif_system.specs.Inheritance.{clauses, parent_number}
use Rattle.eif_system.specs.Lineage.{Line, line_by, line_of, ups_by}
use Rattle.eif_tree.specs.Tree.{ClassT, ParentT}
use Rattle.eif_tree.specs.View.{class_view, clients_view}

-- the clause with a number
pub record FoundClause (u : List ClassT) (c : ClassT) (xs : List Clause) (i : ℕ) (p : ParentT) (l : Line) : Type 0 where
  pub clause : Clause
  pub at : slice_get xs i ≡ Some clause
  pub is : IsClause u c clause p
  pub line_is : l ≡ line_of u clause.parent.0

clause_found : (u : List ClassT) (c : ClassT) (xs : List Clause) (ps : List ParentT) → Match (IsClause u c) xs ps
    → (i : ℕ) (y : ParentT × Line) → clause_at (ups_by (line_up u c) ps) i ≡ Some y → FoundClause u c xs i y.0 y.1
clause_found u c [] [] h i y e = absurd (cc)
clause_found u c [] (p ∷ ps) h i y e = absurd h
clause_found u c (x ∷ xs) [] h i y e = absurd h
clause_found u c (x ∷ xs) (p ∷ ps) h zero y e =
    subst (λ z. FoundClause u c (x ∷ xs) 0 z.0 z.1) (same_Some (p, line_up u c p) y e)
    (record { clause = x; at = refl; is = h.0; line_is = ap (line_by (line_of u)) h.0.parent_is })
clause_found u c (x ∷ xs) (p ∷ ps) h (suc i) y e =
    let f = clause_found u c xs ps h.1 i y e in
    record { clause = f.clause; at = f.at; is = f.is; line_is = f.line_is }

-- what an heir has of the entry e
pub record Found (u : List ClassT) (h : Heir) (id : EntryId) (e : Entry) : Type 0 where
  pub parent : ℕ
  pub number_is : parent_number u (class_view h.tree.now) e.clause ≡ Some parent
  pub text : ClassT
  pub row : FeatureRow
  pub row_is : row_at h id ≡ Some row
  pub of_row : IsFeatureRow u parent text row e.feature
  pub adapted : AdaptedEntry
  pub adapted_is : adapted_at h id ≡ Some adapted
  pub undefined_is : adapted.undefined ≡ is_undefined e.clause e.final
  pub redefined_is : adapted.redefined ≡ is_redefined e.clause e.final
  pub clients_are : option_map clients_view adapted.clients ≡ option_map (λ x. x.clients) (export_item e.clause e.final)

module _ (u : List ClassT) (h : Heir) (is : IsHeir u h) where
  found_in : (id : EntryId) (p : ParentT) (l : Line) (f : Feature)
      → FoundClause u (class_view h.tree.now) h.clauses.items id.clause p l
      → slice_get (features l) id.feat.0 ≡ Some f → Found u h id (entry p f)
  found_in id p l f x at =
      let k = x.clause.parent.0 in
      let there : slice_get (features (line_of u k)) id.feat.0 ≡ Some f =
      ap (λ m. slice_get (features m) id.feat.0) (sym x.line_is) ∙ at in
      let c = class_within u k (parent_within u (class_view h.tree.now) p k x.is.parent_is) in
      let r = Match-at_second (IsFeatureRow u k c.0) x.clause.row.now.features.items (features (line_of u k))
      (x.is.row_is.features_are c.0 c.1) id.feat.0 f there in
      let a = Match-at_second (λ y g. entry_view y ≡ the.adapted p (parent_feature g)) x.clause.adapted.items
      (features (line_of u k))
      (Match-from_map entry_view (λ g. the.adapted p (parent_feature g)) x.clause.adapted.items (features (line_of u k))
      (x.is.adapted_is ∙ map_twice (the.adapted p) parent_feature (features (line_of u k)))) id.feat.0 f there in
      record {
        parent = k;
        number_is = x.is.parent_is;
        text = c.0;
        row = r.0;
        row_is = ap (option_and_then (λ y. slice_get y.row.now.features.items id.feat.0)) x.at ∙ r.1;
        of_row = r.2;
        adapted = a.0;
        adapted_is = ap (option_and_then (λ y. slice_get y.adapted.items id.feat.0)) x.at ∙ a.1;
        undefined_is = ap (λ w. w.undefined) a.2;
        redefined_is = ap (λ w. w.redefined) a.2;
        clients_are = ap (λ w. w.clients) a.2;
      }

  pub found : (id : EntryId) (e : Entry) → entry_at (ups_in u (class_view h.tree.now)) id ≡ Some e → Found u h id e
  found id e at =
      let c = class_view h.tree.now in
      option_and_then_some (λ (y : ParentT × Line). option_map (entry y.0) (slice_get (features y.1) id.feat.0))
      (clause_at (ups_in u c) id.clause) e at (λ y clause_is entry_is.
      go y (clause_found u c h.clauses.items (clauses c) is.clauses_are id.clause y clause_is)
      (slice_get (features y.1) id.feat.0) refl entry_is)
    where
      go : (y : ParentT × Line) → FoundClause u (class_view h.tree.now) h.clauses.items id.clause y.0 y.1
          → (o : Option Feature) → slice_get (features y.1) id.feat.0 ≡ o → option_map (entry y.0) o ≡ Some e
          → Found u h id e
      go y x None there is = absurd (cc)
      go y x (Some f) there is =
          subst (Found u h id) (same_Some (entry y.0 f) e is) (found_in id y.0 y.1 f x there)

-- ---- whether it lasts

not_twice : (b : Bool) → not (not b) ≡ b
not_twice true = refl
not_twice false = refl

module _ (u : List ClassT) (h : Heir) (id : EntryId) (e : Entry) (f : Found u h id e) where
  pub found_version : IsVersion u (version_at h id) e.feature.origin
  found_version =
      subst (λ o. IsVersion u (option_map_or (λ r. r.version) o v.Deferred) e.feature.origin) (sym f.row_is)
      f.of_row.version

  pub found_lasts : lasts_at h id ≡ lasts e
  found_lasts = ap₂ (λ a b. a && not b)
      (ap not (is_deferred-origin u (version_at h id) e.feature.origin found_version)
      ∙ not_twice (is_effective e.feature.origin))
      (ap (λ o. option_map_or (λ a. a.undefined) o false) f.adapted_is ∙ f.undefined_is)

  pub found_kept : (lasts_at h id && not (is_redefined_at h id)) ≡ is_kept e
  found_kept = ap₂ (λ a b. a && not b) found_lasts
      (ap (λ o. option_map_or (λ a. a.redefined) o false) f.adapted_is ∙ f.redefined_is)
