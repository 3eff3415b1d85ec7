-- The names of a class that an ancestor's feature has in it, and those that keep what the ancestor declares.
use Rattle.std.proofs.Common.{◌≡◌, ℕ, ◌<◌, Bool, true, false, cond, List, [], ◌∷◌, ◌++◌, length, map}
use Rattle.std.proofs.Common.{Option, Some, None, refl, sym, ap, ap₂, subst, ◌∙◌, ⊎_elim}
use Rattle.std.proofs.lemmas.Bool.{eqb-true}
use Rattle.std.proofs.lemmas.Cmp.{nat_list_cmp_total}
use Rattle.std.proofs.lemmas.Option.{same_Some, slice_get_within}
use Rattle.std.specs.List.{filter, filter_map}
use Rattle.std.specs.Option.{option_and_then, option_map, option_map_or, option_to_list}
use Rattle.std.specs.Ordering.{is_eq}
use Rattle.std.specs.Prelude.{slice_get, ◌&&◌, ◌==◌, if◌then◌else◌}
use Rattle.std.specs.Str.{bytes_eq}
use Rattle.eif_base.specs.declared.feat_id.FeatId.{FeatId}
use Rattle.eif_binding_laws.proofs.Inherited.{each_found}
use Rattle.eif_choices.proofs.Lines.{order_in}
use Rattle.eif_classes.specs.Binding.{own_name, reach, reached}
use Rattle.eif_classes.specs.Descent.{above}
use Rattle.eif_classes.specs.Entries.{Declaration, Feature, Origin, deferred, declared_as, clashing}
use Rattle.eif_classes.specs.Features.{feature, features, has_feature, names, origin}
use Rattle.eif_classes.specs.Names.{final_name, name_set}
use Rattle.eif_feature_faults.specs.Candidates.{AreNamed}
use Rattle.eif_feature_faults.specs.Replicated.{IsHeirOf, keeps}
use Rattle.eif_feature_faults.specs.declared.replication.HeirOf.{HeirOf}
use Rattle.eif_feature_rules.specs.ReplicationRules.{is_version_of, kept_names}
use Rattle.eif_heirs.specs.Drafts.{IsDraft}
use Rattle.eif_heirs.specs.RowsAbove.{AreRowsAbove}
use Rattle.eif_heirs.specs.declared.drafts.FeatureDraft.{FeatureDraft}
use Rattle.eif_lineage_laws.proofs.Descending.{above_before, class_or_none, lines_of, no_line}
use Rattle.eif_lineage_laws.proofs.EachItem.{all_at}
use Rattle.eif_lineage_laws.proofs.Unfolding.{by_parents, class_at, first_number, later_number, place_at, unfolded}
use Rattle.eif_lineage_laws.proofs.Unfolding.{Step}
use Rattle.eif_lineage_laws.specs.Lineages.{line_over}
use Rattle.eif_rows.proofs.ClassSets.{rising-names}
use Rattle.eif_rows.proofs.Matches.{Match-at, Match-at_second, Match-map}
use Rattle.eif_rows.proofs.NameSets.{is_member-from_place, same_number_test, same_test}
use Rattle.eif_rows.proofs.RisingLists.{cmp-places}
use Rattle.eif_rows.specs.AncestorRows.{IsAncestorRow}
use Rattle.eif_rows.specs.Matched.{Match}
use Rattle.eif_rows.specs.Numbers.{name_of, names_of}
use Rattle.eif_rows.specs.Rows.{IsRow}
use Rattle.eif_rows.specs.Systems.{IsSystem}
use Rattle.eif_rows.specs.Versions.{declaration_id, same_declaration, IsDeclaration, IsVersionIfOne}
use Rattle.eif_rows.specs.declared.ancestor_row.AncestorRow.{AncestorRow}
use Rattle.eif_rows.specs.declared.declaration_id.DeclarationId.{DeclarationId}
use Rattle.eif_rows.specs.declared.row.Row.{Row}
use Rattle.eif_rows.specs.declared.version.Version.{Version}
use Rattle.eif_rows.specs.declared.version.Version.TheVariants.{Deferred, Attribute, Routine}
use Rattle.eif_system.specs.Graph.{is_member}
use Rattle.eif_system.specs.Inheritance.{clauses, parent_number}
use Rattle.eif_system.specs.Lineage.{line, cut, Line, line_by, line_of}
use Rattle.eif_tree.specs.Tree.{ParentT, ClassT}
use Rattle.eif_tree.specs.View.{class_view}

-- ---- what is no name is reached nowhere

-- clauses reach nothing where their classes reach nothing
none_by_clauses : (u : List ClassT) (c : ClassT) (k : ℕ) (m : List ℕ) (ps : List ParentT)
    → ((q : ℕ) → is_member q (filter_map (parent_number u c) ps) ≡ true → reach (line_of u q) k m ≡ [])
    → reached (lines_of u c ps) k m ≡ []
none_by_clauses u c k m [] none = refl
none_by_clauses u c k m (p ∷ ps) none =
    ap₂ (λ ms ns. map (final_name p) ms ++ ns) (first (parent_number u c p) refl)
    (none_by_clauses u c k m ps (λ q h. none q (later_number (parent_number u c p) q _ h)))
  where
    first : (o : Option ℕ) → parent_number u c p ≡ o → reach (line_by (line_of u) o) k m ≡ []
    first None e = refl
    first (Some q) e = none q (first_number (parent_number u c p) q (filter_map (parent_number u c) ps) e)

module _ (u : List ClassT) (s : IsSystem u) where
  module _ (k : ℕ) (m : List ℕ) (absent : has_feature (line_of u k) m ≡ false) where
    -- the class d has no name of it
    abbrev IsUnreached : ℕ → Type 0
    IsUnreached d = reach (line_of u d) k m ≡ []

    -- no more than its parents have
    unreached_step : Step u (order_in u s).0 (order_in u s).1 IsUnreached
    unreached_step d c at parents = ap (λ l. reach l k m) over ∙ go (d == k) refl
      where
        over : line_of u d ≡ line_over u d c
        over = unfolded u (order_in u s).0 (order_in u s).1 d c at

        go : (b : Bool) → (d == k) ≡ b
            → (if b then option_to_list (own_name (line_over u d c) m)
            else name_set (reached (lines_of u c (clauses c)) k m)) ≡ []
        go true e =
            let none = ap (λ l. has_feature l m) (sym over)
            ∙ (ap (λ j. has_feature (line_of u j) m) (eqb-true d k e) ∙ absent) in
            ap (λ b. option_to_list (if b then Some m else None)) none
        go false e = ap name_set (none_by_clauses u c k m (clauses c) parents)

    -- what is no name of the class k has no name in any class
    pub unreached : (d : ℕ) → reach (line_of u d) k m ≡ []
    unreached d = ⊎_elim
        (λ (c : (c : ClassT) × (slice_get u d ≡ Some c)).
        by_parents u (order_in u s).0 (order_in u s).1 IsUnreached unreached_step d c.0 c.1)
        (λ (e : slice_get u d ≡ None). ap (λ l. reach l k m) (no_line u d e))
        (class_or_none u d)

  -- the number of a proper ancestor is that of a class
  pub ancestor_within : (d k : ℕ) (c : ClassT) → slice_get u d ≡ Some c → is_member k (above (line_of u d)) ≡ true
      → k < length u
  ancestor_within d k c at listed =
      let o = order_in u s in
      let i = place_at u o.0 o.1 d c at in
      let j = above_before u o.0 o.1 i.0 d k i.1 listed in
      let a = class_at u o.0 o.1 j.0 k j.2 in
      slice_get_within u k a.0 a.1

-- ---- what a class has under a name, by its number

-- each feature is found by its name
feature_found : (l : Line) (i : ℕ) (f : Feature) → slice_get (features l) i ≡ Some f → feature l f.name ≡ Some f
feature_found (line d c ups) i f at =
    all_at (λ (f : Feature). feature (line d c ups) f.name ≡ Some f) (features (line d c ups)) i f
    (each_found d c ups) at
feature_found cut i f at = absurd (cc)

-- the feature at the place of a name is that of the name
feature_at : (l : Line) (i : ℕ) (n : List ℕ) → slice_get (names l) i ≡ Some n
    → (f : Feature) × (slice_get (features l) i ≡ Some f) × (origin l n ≡ Some f.origin)
feature_at l i n at =
    let named : Feature → List ℕ → Type 0 = λ f m. f.name ≡ m in
    let each = Match-map named (λ f. f.name) (features l) (λ f. refl) in
    let p = Match-at_second named (features l) (names l) each i n at in (
      p.0,
      p.1,
      ap (origin l) (sym p.2)
          ∙ ap (λ (o : Option Feature). option_map (λ f. f.origin) o) (feature_found l i p.0 p.1),
    )

-- numbers of names of a class are one just where the names are
same_names : (l : Line) (i j : ℕ) (n m : List ℕ) → slice_get (names l) i ≡ Some n → slice_get (names l) j ≡ Some m
    → (i == j) ≡ bytes_eq n m
same_names l i j n m at there =
    sym (same_number_test i j)
    ∙ (ap is_eq (cmp-places nat_list_cmp_total (names l) (rising-names l) i j n m at there) ∙ same_test n m)

-- ---- what the class k declares under the name m, by its number

module _ (u : List ClassT) (k : ℕ) (m : List ℕ) (id : DeclarationId) (of : id.class_id.0 ≡ k)
    (named : name_of (names (line_of u k)) id.feat ≡ Some m) where
  -- a declaration is that just where it is of the class k and of the name m
  same_as : (a : DeclarationId) (x : Declaration) → IsDeclaration u a x
      → same_declaration (Some a) (Some id) ≡ ((x.class_number == k) && bytes_eq x.name m)
  same_as a x is =
      ap₂ (λ i j. (i == j) && (a.feat.0 == id.feat.0)) is.class of ∙ go (x.class_number == k) refl
    where
      go : (b : Bool) → (x.class_number == k) ≡ b → (b && (a.feat.0 == id.feat.0)) ≡ (b && bytes_eq x.name m)
      go true e =
          let there = subst (λ j. slice_get (names (line_of u j)) a.feat.0 ≡ Some x.name)
          (eqb-true x.class_number k e) is.name in
          same_names (line_of u k) a.feat.0 id.feat.0 x.name m there named
      go false e = refl

  -- a version comes from it just where its origin is that
  kept_version : (v : Option Version) (o : Origin) → IsVersionIfOne u v o
      → same_declaration (option_and_then declaration_id v) (Some id) ≡ is_version_of k m o
  kept_version None clashing is = refl
  kept_version (Some Deferred) deferred is = refl
  kept_version (Some (Attribute a)) (declared_as x) is = same_as a x is.0
  kept_version (Some (Routine a)) (declared_as x) is = same_as a x is.0
  kept_version _ _ is = absurd is

  -- of a name of the class d, by its draft
  kept_name : (d : ℕ) (x : HeirOf) → IsHeirOf u d k x → (f : FeatId) (n : List ℕ)
      → name_of (names (line_of u d)) f ≡ Some n
      → option_map_or (λ r. keeps r id) (slice_get x.drafts.now f.0) false
      ≡ option_map_or (is_version_of k m) (origin (line_of u d) n) false
  kept_name d x is f n at =
      let p = feature_at (line_of u d) f.0 n at in
      let r = Match-at_second (IsDraft u d (class_view x.tree.now)) x.drafts.now (features (line_of u d)) is.drafts_are
      f.0 p.0 p.1 in
      ap (λ (o : Option FeatureDraft). option_map_or (λ r. keeps r id) o false) r.1
      ∙ (kept_version r.0.version p.0.origin r.2.version
      ∙ sym (ap (λ o. option_map_or (is_version_of k m) o false) p.2))

-- ---- numbers and names that pass a test

-- where numbers and their names pass alike, those that pass have the names that do
filter_named : (names : List (List ℕ)) (p : FeatId → Bool) (q : List ℕ → Bool)
    → ((f : FeatId) (n : List ℕ) → name_of names f ≡ Some n → p f ≡ q n)
    → (fs : List FeatId) (ns : List (List ℕ)) → AreNamed names fs ns → AreNamed names (filter p fs) (filter q ns)
filter_named names p q same [] [] h = refl
filter_named names p q same [] (n ∷ ns) h = cc
filter_named names p q same (f ∷ fs) [] h = cc
filter_named names p q same (f ∷ fs) (n ∷ ns) h =
    let here : name_of names f ≡ Some n = cc in
    let rest : names_of names fs ≡ map Some ns = cc in
    ap (λ b. names_of names (cond b (f ∷ filter p fs) (filter p fs))) (same f n here)
    ∙ go (q n) here (filter_named names p q same fs ns rest)
  where
    go : (b : Bool) → name_of names f ≡ Some n → AreNamed names (filter p fs) (filter q ns)
        → AreNamed names (cond b (f ∷ filter p fs) (filter p fs)) (cond b (n ∷ filter q ns) (filter q ns))
    go true here later = ap₂ (λ (m : Option (List ℕ)) (ms : List (Option (List ℕ))). m ∷ ms) here later
    go false here later = later

-- the numbers of the class d that keep what k declares under the name, among those of all its names there
pub kept_numbers : (u : List ClassT) (d k : ℕ) (m : List ℕ) (x : HeirOf) → IsHeirOf u d k x → (id : DeclarationId)
    → id.class_id.0 ≡ k → name_of (names (line_of u k)) id.feat ≡ Some m → (fs : List FeatId)
    → AreNamed (names (line_of u d)) fs (reach (line_of u d) k m)
    → AreNamed (names (line_of u d))
    (filter (λ f. option_map_or (λ r. keeps r id) (slice_get x.drafts.now f.0) false) fs) (kept_names (line_of u d) k m)
kept_numbers u d k m x is id of named fs are =
    filter_named (names (line_of u d)) (λ f. option_map_or (λ r. keeps r id) (slice_get x.drafts.now f.0) false)
    (λ n. option_map_or (is_version_of k m) (origin (line_of u d) n) false) (kept_name u k m id of named d x is) fs
    (reach (line_of u d) k m) are

-- and there are none where k has no such name
pub none_kept : (u : List ClassT) → IsSystem u → (d k : ℕ) (m : List ℕ) → has_feature (line_of u k) m ≡ false
    → kept_names (line_of u d) k m ≡ reach (line_of u d) k m
none_kept u s d k m absent =
    let none = unreached u s k m absent d in
    ap (filter (λ n. option_map_or (is_version_of k m) (origin (line_of u d) n) false)) none ∙ sym none

-- ---- the proper ancestors of a class, by their places

-- what becomes of the features of the proper ancestor at a place, and its row
pub record IsAncestorAt (u : List ClassT) (d : ℕ) (rows : List (Option Row)) (i : ℕ) (x : AncestorRow) : Type 0 where
  pub at : slice_get (above (line_of u d)) i ≡ Some x.class_id.0
  pub listed : is_member x.class_id.0 (above (line_of u d)) ≡ true
  pub becomes : IsAncestorRow u (line_of u d) x x.class_id.0
  pub row : (r : Row) → slice_get rows x.class_id.0 ≡ Some (Some r) → IsRow u x.class_id.0 r

-- each row of what becomes of features is that of a proper ancestor, which has its own row
pub ancestor_at : (u : List ClassT) (d : ℕ) (rows : List (Option Row)) → AreRowsAbove u rows d
    → (ancestors : List AncestorRow) → Match (IsAncestorRow u (line_of u d)) ancestors (above (line_of u d))
    → (i : ℕ) (x : AncestorRow) → slice_get ancestors i ≡ Some x → IsAncestorAt u d rows i x
ancestor_at u d rows kept ancestors all i x at =
    let p = Match-at (IsAncestorRow u (line_of u d)) ancestors (above (line_of u d)) all i x at in
    let there : slice_get (above (line_of u d)) i ≡ Some x.class_id.0 = p.1 ∙ ap Some (sym p.2.class) in
    let member = is_member-from_place (above (line_of u d)) i x.class_id.0 there in
    let own = kept x.class_id.0 member in
    record {
      at = there;
      listed = member;
      becomes = subst (IsAncestorRow u (line_of u d) x) (sym p.2.class) p.2;
      row = λ r e.
          subst (IsRow u x.class_id.0) (same_Some own.0 r (same_Some (Some own.0) (Some r) (sym own.1 ∙ e))) own.2;
    }
