-- Drafts that are made of a declaration or of entries are what the class has under its names.
use Rattle.std.proofs.Common.{◌≡◌, ℕ, List, [], ◌∷◌, ◌++◌, length, map, Option, Some, None, refl, sym, ap, subst, ◌∙◌, ⊎_elim}
use Rattle.std.specs.Prelude.{slice_get}
use Rattle.std.specs.List.{filter}
use Rattle.std.specs.Option.{option_map, option_map_or}
use Rattle.std.proofs.lemmas.List.{length-map}
use Rattle.std.proofs.lemmas.Option.{same_Some, slice_get-map}
use Rattle.eif_classes.specs.Clients.{client_names, clients, declaring_part, inherited_clients, is_available, is_client}
use Rattle.eif_classes.specs.Entries.{Declaration, Feature, entries_of, joined, lasts}
use Rattle.eif_classes.specs.Features.{declaration_of, declared_origin, entries, feature_by, features, is_attribute, names}
use Rattle.eif_classes.specs.Names.{name_set}
use Rattle.eif_feature_rules.specs.RuleForms.{declared_here}
use Rattle.eif_heirs.specs.Clauses.{entry_at, ups_in}
use Rattle.eif_heirs.specs.DeclaredNames.{IsDeclaredName}
use Rattle.eif_heirs.specs.DraftForms.{IsByDeclared, IsByEntries, IsDraftAt, feature_of}
use Rattle.eif_heirs.specs.DraftParts.{declared_version, own_declaration}
use Rattle.eif_heirs.specs.Drafts.{IsDraft}
use Rattle.eif_heirs.specs.EntryParts.{listed_classes}
use Rattle.eif_heirs.specs.Heirs.{AreSources, IsHeir, first_declared}
use Rattle.eif_heirs.specs.declared.drafts.FeatureDraft.{FeatureDraft}
use Rattle.eif_heirs.specs.declared.heir.Heir.{Heir}
use Rattle.eif_heirs.specs.declared.heir.NameSources.{NameSources}
use Rattle.eif_heirs.proofs.ClientSets.{client_of_ordered, client_of_set, clients_found, is_heir_of_any}
use Rattle.eif_heirs.proofs.DeclaredFirst.{declaration_found, found_at, is_of, no_part, none_found, part_found}
use Rattle.eif_heirs.proofs.FoundEntries.{Found, found}
use Rattle.eif_heirs.proofs.Places.{get-push}
use Rattle.eif_heirs.proofs.Texts.{names_of_line}
use Rattle.eif_heirs.proofs.VersionsJoined.{joined_version, source_found}
use Rattle.eif_rows.specs.Matched.{Match}
use Rattle.eif_rows.specs.Rows.{declaration_at}
use Rattle.eif_rows.specs.Versions.{IsDeclaration, IsVersion, IsVersionIfOne}
use Rattle.eif_rows.specs.declared.declaration_id.DeclarationId.{DeclarationId}
use Rattle.eif_rows.proofs.Matches.{Match-at_both, Match-from_map, Match-from_places, Match-weaken, length-Match}
use Rattle.eif_system.specs.Inheritance as inheritance
use Rattle.eif_system.specs.Lineage.{line_of}
use Rattle.eif_tree.specs.Tree.{KindT, attribute, constant, deferred_body, routine, ClassT, DeclT, FeaturesT}
use Rattle.eif_tree.specs.View.{class_view}

-- the version by a declaration is that of its origin
declared_version_is : (u : List ClassT) (id : DeclarationId) (x : Declaration) → IsDeclaration u id x → (k : KindT)
    → is_attribute x.tree.kind ≡ is_attribute k → IsVersion u (declared_version k id) (declared_origin k x)
declared_version_is u id x is attribute e = (is, e)
declared_version_is u id x is (constant c) e = (is, e)
declared_version_is u id x is deferred_body e = tt
declared_version_is u id x is (routine gs b) e = (is, e)

module _ (u : List ClassT) (h : Heir) (is : IsHeir u h) where
  abbrev own_class : ClassT
  own_class = class_view h.tree.now

  -- ---- the names

  features_are : features (line_of u h.class_id.0) ≡ map (feature_of u h) h.names.items
  features_are =
      ap features is.line_is
      ∙ ap (map (feature_of u h))
      (sym (names_of_line h.class_id.0 own_class (ups_in u own_class)) ∙ (ap names (sym is.line_is) ∙ sym is.names_are))

  -- ---- the draft of the name n with the number i

  module _ (i : ℕ) (n : List ℕ) (at : slice_get h.names.items i ≡ Some n) (s : NameSources)
      (s_at : slice_get h.sources.items i ≡ Some s) where
    sources_are : AreSources u own_class s n
    sources_are = Match-at_both (AreSources u own_class) h.sources.items h.names.items is.sources_are i s n s_at at

    -- the clients in the line of the class, by the part that declares the name
    available : (k : ℕ) (o : Option FeaturesT) → declaring_part own_class n ≡ o
        → is_available u (line_of u h.class_id.0) n k
        ≡ is_client u (name_set (option_map_or (λ part. client_names part.clients) o
        (inherited_clients (ups_in u own_class) n))) k
    available k o e =
        ap (λ l. is_client u (clients l n) k) is.line_is
        ∙ ap (λ o. is_client u (name_set (option_map_or (λ part. client_names part.clients) o
        (inherited_clients (ups_in u own_class) n))) k) e

    pub by_declared : (first : ℕ) → s.declared ≡ Some first → (r : FeatureDraft) → IsByDeclared u h i first r
        → IsDraft u h.class_id.0 own_class r (feature_of u h n)
    by_declared first is_first r by =
        let first_is : first_declared own_class n ≡ Some first = sym sources_are.declared_is ∙ is_first in
        let f = found_at (is_of n) (declared_here own_class) first first_is in
        let name = Match-at_both (IsDeclaredName own_class) h.declared.items (declared_here own_class) is.declared_are
        first by.name f.item by.at f.at in
        let tree_is : declaration_of own_class n ≡ Some f.item.tree =
        declaration_found n own_class ∙ ap (option_map (λ y. y.tree)) f.first in
        let id = own_declaration h.class_id i in
        let x : Declaration = record { class_number = h.class_id.0; name = n; tree = f.item.tree } in
        let is_own : IsDeclaration u id x = record {
          class = refl;
          name = ap (λ ns. slice_get ns i) (sym is.names_are) ∙ at;
          tree = (own_class, is.class_is, tree_is);
        } in
        subst (IsDraft u h.class_id.0 own_class r)
        (ap (feature_by h.class_id.0 (entries (ups_in u own_class)) n) (sym tree_is))
        (record {
          version = subst (λ o. IsVersionIfOne u o (declared_origin f.item.tree.kind x))
              (sym (by.is.version
              ∙ ap (λ k. Some (declared_version k id)) (ap (λ (t : DeclT). t.kind) name.tree_is)))
              (declared_version_is u id x is_own f.item.tree.kind refl);
          source = (x, refl, subst (λ t. IsDeclaration u t x) (sym by.is.source) is_own);
          clients = λ k.
              ap (is_heir_of_any u k) by.is.clients
              ∙ (client_of_ordered u k (listed_classes u by.part.clients)
              ∙ (sym (client_of_set u k (client_names by.part.clients))
              ∙ sym (available k (Some by.part) (part_found n own_class first by.part first_is by.part_at))));
          declared = ap (declaration_at own_class) by.is.place ∙ (name.place_is ∙ sym tree_is);
        })

    entries_found : Match (Found u h) s.entries.items (entries_of n (entries (ups_in u own_class)))
    entries_found =
        Match-weaken (λ id e. entry_at (ups_in u own_class) id ≡ Some e) (Found u h) (λ id e at. found u h is id e at)
        s.entries.items (entries_of n (entries (ups_in u own_class)))
        (Match-from_map (entry_at (ups_in u own_class)) Some s.entries.items
        (entries_of n (entries (ups_in u own_class))) sources_are.entries_are)

    pub by_entries : s.declared ≡ None → (r : FeatureDraft) → IsByEntries u h s.entries.items r
        → IsDraft u h.class_id.0 own_class r (feature_of u h n)
    by_entries none r by =
        let none_is : first_declared own_class n ≡ None = sym sources_are.declared_is ∙ none in
        let tree_is : declaration_of own_class n ≡ None =
        declaration_found n own_class
        ∙ ap (option_map (λ y. y.tree)) (none_found (is_of n) 0 (declared_here own_class) none_is) in
        let es = entries_of n (entries (ups_in u own_class)) in
        subst (IsDraft u h.class_id.0 own_class r)
        (ap (feature_by h.class_id.0 (entries (ups_in u own_class)) n) (sym tree_is))
        (record {
          version = subst (λ o. IsVersionIfOne u o (joined (map (λ e. e.feature.origin) (filter lasts es))))
              (sym by.version)
              (joined_version u h s.entries.items es entries_found);
          source = source_found u h s.entries.items es entries_found r.source by.source;
          clients = λ k.
              ap (is_heir_of_any u k) by.clients
              ∙ (clients_found u k h s.entries.items n (inheritance.clauses own_class) entries_found
              ∙ sym (available k None (no_part n own_class none_is)));
          declared = ap (declaration_at own_class) by.place ∙ sym tree_is;
        })

  -- ---- all drafts

  pub drafts_are : (rs : List FeatureDraft) → length rs ≡ length h.sources.items
      → ((i : ℕ) (r : FeatureDraft) → slice_get rs i ≡ Some r → IsDraftAt u h i r)
      → Match (IsDraft u h.class_id.0 own_class) rs (features (line_of u h.class_id.0))
  drafts_are rs long each =
      subst (Match (IsDraft u h.class_id.0 own_class) rs) (sym features_are)
      (Match-from_places (IsDraft u h.class_id.0 own_class) rs (map (feature_of u h) h.names.items)
      (long ∙ (length-Match (AreSources u own_class) h.sources.items h.names.items is.sources_are
      ∙ sym (length-map h.names.items (feature_of u h))))
      (λ i r f r_at f_at. go i r f r_at (slice_get h.names.items i) refl
      (sym (slice_get-map (feature_of u h) h.names.items i) ∙ f_at)))
    where
      go : (i : ℕ) (r : FeatureDraft) (f : Feature) → slice_get rs i ≡ Some r → (o : Option (List ℕ))
          → slice_get h.names.items i ≡ o → option_map (feature_of u h) o ≡ Some f
          → IsDraft u h.class_id.0 own_class r f
      go i r f r_at None at e = absurd (cc)
      go i r f r_at (Some n) at e =
          subst (IsDraft u h.class_id.0 own_class r) (same_Some (feature_of u h n) f e) (each i r r_at n at)

-- drafts are those of their places with one more
pub drafts_more : (u : List ClassT) (h : Heir) (rs more : List FeatureDraft) (r : FeatureDraft) → more ≡ rs ++ r ∷ []
    → ((i : ℕ) (s : FeatureDraft) → slice_get rs i ≡ Some s → IsDraftAt u h i s) → IsDraftAt u h (length rs) r
    → (i : ℕ) (s : FeatureDraft) → slice_get more i ≡ Some s → IsDraftAt u h i s
drafts_more u h rs more r e each last i s at = ⊎_elim
    (λ (q : slice_get rs i ≡ Some s). each i s q)
    (λ (q : (i ≡ length rs) × (r ≡ s)).
    subst (λ j. IsDraftAt u h j s) (sym q.0) (subst (IsDraftAt u h (length rs)) q.1 last))
    (get-push rs r i s (sym (ap (λ zs. slice_get zs i) e) ∙ at))
