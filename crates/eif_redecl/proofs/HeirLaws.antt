-- A class of a system that breaks no rule up to those of derivations: its numbers and its names.
use Rattle.std.proofs.Common.{◌≡◌, ℕ, ◌<◌, ◌^◌, Bool, true, false, List, [], ◌∷◌, length, map, Option, Some, None, refl, sym, ap, ap₂, subst, ◌∙◌}
use Rattle.std.specs.Prelude.{cond, find, flat_map, slice_get, ◌||◌, ◌&&◌, not}
use Rattle.std.specs.Str.{bytes_eq}
use Rattle.std.proofs.lemmas.Option.{same_Some, slice_get_within}
use Rattle.eif_base.specs.Numbering.{is_among}
use Rattle.eif_base.specs.declared.class_id.ClassId.{ClassId}
use Rattle.eif_base.specs.declared.feat_id.FeatId.{FeatId}
use Rattle.eif_binding_laws.proofs.Bound.{names_bound}
use Rattle.eif_binding_laws.proofs.Formed.{signed_feature}
use Rattle.eif_binding_laws.proofs.Searches.{apart, turned}
use Rattle.eif_binding_laws.proofs.Signing.{IsSignedEntry, seen}
use Rattle.eif_binding_laws.specs.Signatures.{IsSigned}
use Rattle.eif_classes.specs.Binding.{bind}
use Rattle.eif_classes.specs.Descent.{descends}
use Rattle.eif_classes.specs.Entries.{Feature, entry}
use Rattle.eif_classes.specs.Features.{feature, features, has_feature, names}
use Rattle.eif_classes.specs.Names.{final_name}
use Rattle.eif_classes.specs.Resolution.{clause_actuals}
use Rattle.eif_classes.specs.Signatures.{Signature, signature, signed, signed_entries_in, with_actuals}
use Rattle.eif_derivations.proofs.ParentClauses.{are_numbers}
use Rattle.eif_derivations.proofs.Systems.{few_in_tree, parent_class}
use Rattle.eif_lineage_laws.proofs.Unfolding.{unfolded}
use Rattle.eif_lineage_laws.specs.Lineages.{line_over}
use Rattle.eif_redecl.proofs.GroupLaws.{named_entries}
use Rattle.eif_redecl.specs.SeenClauses.{IsClause, IsHeir, named, signed_of}
use Rattle.eif_redecl.specs.declared.entry.Heir.{Heir}
use Rattle.eif_rows.proofs.Matches.{Match-from_places}
use Rattle.eif_rows.specs.Matched.{Match}
use Rattle.eif_rows.specs.Numbers.{name_of}
use Rattle.eif_signatures.proofs.Derived.{found_at, ordered, setting_of, signed_at, signed_in}
use Rattle.eif_signatures.specs.DerivedSystems.{classes_in}
use Rattle.eif_system.specs.Graph.{parents_of}
use Rattle.eif_system.specs.Inheritance.{clauses, graph_of}
use Rattle.eif_system.specs.Lineage.{Line, line_of}
use Rattle.eif_tables.proofs.LookUps.{has_class, has_named_feature, has_numbered_feature}
use Rattle.eif_tables.specs.TablesOf.{HasClass, HasFeature}
use Rattle.eif_tree.specs.Tree.{ParentT, ClassT}
use Rattle.eif_tree.specs.View.{class_view, parent_view}
use Rattle.eif_type_laws.proofs.Ways.{clause_member}
use Rattle.eif_universe.specs.Universes.{numbers_of}

-- what is no name of a class is not found
absent_feature : (fs : List Feature) (n : List ℕ) → is_among (map (λ f. f.name) fs) n ≡ false →
    find (λ f. bytes_eq f.name n) fs ≡ None
absent_feature [] n h = refl
absent_feature (f ∷ fs) n h = go (bytes_eq n f.name) (bytes_eq f.name n) refl refl h (absent_feature fs n)
  where
    go : (a b : Bool) → bytes_eq n f.name ≡ a → bytes_eq f.name n ≡ b →
        (a || is_among (map (λ f. f.name) fs) n) ≡ false →
        (is_among (map (λ f. f.name) fs) n ≡ false → find (λ f. bytes_eq f.name n) fs ≡ None) →
        cond b (Some f) (find (λ f. bytes_eq f.name n) fs) ≡ None
    go true b e g h later = cc
    go false true e g h later = absurd (apart (bytes_eq n f.name) (turned n f.name g) e)
    go false false e g h later = later h

module _ (h : Heir) (is : IsHeir h) where
  abbrev pub u : List ClassT
  u = classes_in h.system

  abbrev pub d : ℕ
  d = h.class_id.0

  abbrev pub c : ClassT
  c = class_view h.class.now

  pub within : d < length u
  within = slice_get_within u d c is.at

  pub few_formals : length h.class.now.formals.items < 2 ^ 32
  few_formals = few_in_tree u is.system.tables_are.system d h.class.now is.at

  pub line_is : line_of u d ≡ line_over u d c
  line_is = unfolded u (setting_of u h.system.tables.now h.system.types.now is.system).0
      (ordered u h.system.tables.now h.system.types.now is.system) d c is.at

  pub class_has : (k : ClassId) → k.0 < length u → HasClass h.system.tables.now k
  class_has k within = has_class u h.system.tables.now is.system.tables_are k within

  pub named_has : (k : ClassId) (f : FeatId) (n : List ℕ) → k.0 < length u →
      name_of (names (line_of u k.0)) f ≡ Some n → HasFeature h.system.tables.now k f
  named_has k f n within named = has_named_feature u h.system.tables.now is.system.tables_are k f within n named

  pub number_has : (k : ClassId) (f : FeatId) → k.0 < length u → f.0 < length (names (line_of u k.0)) →
      HasFeature h.system.tables.now k f
  number_has k f within below = has_numbered_feature u h.system.tables.now is.system.tables_are k f within below

  -- what is no name has no signature
  pub unsigned : (n : List ℕ) → has_feature (line_of u d) n ≡ false → signature u (line_of u d) n ≡ None
  unsigned n absent = go (signature u (line_of u d) n) refl
    where
      go : (o : Option Signature) → signature u (line_of u d) n ≡ o → signature u (line_of u d) n ≡ None
      go None e = e
      go (Some s) e =
          let g = setting_of u h.system.tables.now h.system.types.now is.system in
          let f = signed_feature u g.0 g.1 d n s e in
          let z : None ≡ Some f.0 = sym (absent_feature (features (line_of u d)) n absent) ∙ f.1 in cc

  -- each name of an ancestor is bound to a name of the class
  pub bound_to : (k : ℕ) (m : List ℕ) → descends (line_of u d) k ≡ true → has_feature (line_of u k) m ≡ true →
      (n : List ℕ) × (bind (line_of u d) k m ≡ Some n) × (has_feature (line_of u d) n ≡ true)
  bound_to k m down has =
      let g = setting_of u h.system.tables.now h.system.types.now is.system in
      names_bound u g.0 (ordered u h.system.tables.now h.system.types.now is.system)
      (λ d c at. (g.1.features d c at).decided) d k m down has

  -- the numbers of its parents go with its clauses
  pub parents_match : (ks : List ClassId) → numbers_of ks ≡ parents_of (graph_of u) d →
      Match (IsClause u c) (map parent_view h.clauses.now) ks
  parents_match ks numbers =
      let n = are_numbers u is.system.tables_are.system d c is.at ks numbers in
      subst (λ ps. Match (IsClause u c) ps ks) (sym is.clauses_are)
      (Match-from_places (IsClause u c) (clauses c) ks (sym n.long)
      (λ i p k a b. record { number = n.each i p k a b; place = i; among = a }))

  -- the entries of a name by its clauses
  pub named_in : (n : List ℕ) → named n (flat_map (signed_of u c) (map parent_view h.clauses.now))
      ≡ signed_entries_in u (line_of u d) n
  named_in n =
      ap (λ ps. named n (flat_map (signed_of u c) ps)) is.clauses_are
      ∙ (named_entries u c n (clauses c) ∙ sym (ap (λ l. signed_entries_in u l n) line_is))

  -- ---- a clause

  module _ (p : ParentT) (k : ClassId) (clause : IsClause u c p k) where
    pub parent_within : k.0 < length u
    parent_within =
        let q = parent_class u is.system.tables_are.system c p k.0 clause.number in
        slice_get_within u k.0 q.0 q.1

    module _ (i : ℕ) (x : Feature) (at : slice_get (features (line_of u k.0)) i ≡ Some x) where
      pub their_signature : (s : Signature) × (signature u (line_of u k.0) x.name ≡ Some s) × IsSigned u k.0 x s
      their_signature = signed_at u h.system.tables.now h.system.types.now is.system k.0 i x parent_within at

      -- the signature of the parent's feature with the clause's actuals put in is that of its declaration, seen here
      pub seen_here : (t : Signature) → signature u (line_of u k.0) x.name ≡ Some t →
          IsSigned u d x (with_actuals (clause_actuals u c p) t)
      seen_here t gives =
          let g = setting_of u h.system.tables.now h.system.types.now is.system in
          let w = their_signature in
          let member = clause_member u c (clauses c) clause.place p k.0 clause.among clause.number in
          let n = final_name p x.name in
          let signed_entry : IsSignedEntry u c n (signed (clause_actuals u c p) (entry p x) t) = record {
            p = p;
            q = k.0;
            by = record {
              names = clause.number;
              member = member;
              place = clause.place;
              among = clause.among;
              clause = refl;
              final = refl;
              renamed = refl;
              found = found_at u h.system.tables.now h.system.types.now is.system k.0 i x parent_within at;
              theirs = t;
              signature = gives;
              is = refl;
              signed = subst (IsSigned u k.0 x) (same_Some w.0 t (sym w.1 ∙ gives)) w.2;
            };
          } in
          seen u g.0 g.1 d c is.at
          (λ q m. signed_in u h.system.tables.now h.system.types.now is.system q) n
          (signed (clause_actuals u c p) (entry p x) t) signed_entry
