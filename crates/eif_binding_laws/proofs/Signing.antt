-- The signature of each name is that of a declaration above.
use Rattle.std.proofs.Common.{◌≡◌, ℕ, suc, Bool, true, false, List, [], ◌∷◌, ◌++◌, map, Option, Some, None, refl, sym, ap, ap₂, subst, ◌∙◌, ⊎_elim}
use Rattle.std.proofs.lemmas.Bool.{eqb-true}
use Rattle.std.proofs.lemmas.Option.{same_Some}
use Rattle.std.specs.List.{filter, filter_map, flat_map, cons_option}
use Rattle.std.specs.Option.{option_map, option_or, option_and_then}
use Rattle.std.specs.Prelude.{cond, find, slice_get, ◌||◌, ◌==◌}
use Rattle.std.specs.Str.{bytes_eq}
use Rattle.eif_ancestry.proofs.Members.{or_cases, or_left, or_right, is_false}
use Rattle.eif_base.specs.Numbering.{is_among}
use Rattle.eif_classes.specs.Ancestry.{ancestor}
use Rattle.eif_classes.specs.Descent.{descends}
use Rattle.eif_classes.specs.Entries.{Declaration, Origin, deferred, declared_as, clashing, Feature, Entry, entry, entries_of, leading}
use Rattle.eif_classes.specs.Features.{declaration_of, declared_origin, feature_by, features, entries, feature}
use Rattle.eif_classes.specs.Names.{final_name}
use Rattle.eif_classes.specs.Resolution.{own_formals, clause_actuals}
use Rattle.eif_classes.specs.Signatures.{Signature, SignedEntry, declared_signature, with_actuals, signed, signature, signed_entries}
use Rattle.eif_classes.specs.Types.{Actuals, put_in_all}
use Rattle.eif_feature_rules.specs.DeclarationRules.{is_deferred_kind}
use Rattle.eif_feature_rules.specs.FeatureRules.{clashing_name, deferred_name, origin_faults}
use Rattle.eif_lineage_laws.proofs.Descending.{lines_of, no_line, class_or_none, parent_descends, descends_reaches, no_way_back}
use Rattle.eif_lineage_laws.proofs.EachItem.{AllOf, all_append}
use Rattle.eif_lineage_laws.proofs.NoFaults.{none_left}
use Rattle.eif_lineage_laws.proofs.Unfolding.{by_parents, Step, parent_class, unfolded}
use Rattle.eif_system.specs.Graph.{is_member, Reaches}
use Rattle.eif_system.specs.Inheritance.{clauses, parent_number, parent_numbers, graph_of}
use Rattle.eif_system.specs.Lineage.{Line, line, Ups, line_by, line_of}
use Rattle.eif_tree.specs.declared.tree.NameAt.{NameAt}
use Rattle.eif_tree.specs.Members.{has_name, declarations, declared_names}
use Rattle.eif_tree.specs.Tree.{KindT, attribute, constant, deferred_body, routine, ParentT, DeclT, ClassT}
use Rattle.eif_type_laws.specs.ClassTypes.{IsHierarchy, Defined}
use Rattle.eif_type_laws.proofs.Ancestors.{own_ancestor, via, ancestor_descends, clause_descends, count_is}
use Rattle.eif_type_laws.proofs.Ways.{clause_member}
use Rattle.eif_binding_laws.specs.Signatures.{IsVersion, IsSigned}
use Rattle.eif_binding_laws.proofs.Inherited.{all_names, found_made, each_found}
use Rattle.eif_binding_laws.proofs.Leading.{leading_map, leading_has, leading_some, joined_version}
use Rattle.eif_binding_laws.proofs.Searches.{same_bytes, turned, apart, found_has, among_append, map_append}
use Rattle.eif_binding_laws.proofs.Settings.{actuals_compose, own_signature, IsSetting}

-- ---- what a class gives an ancestor by one of its clauses

module _ (u : List ClassT) (order : List ℕ) (is : IsHierarchy u order) (defined : Defined u) where
  pub climbs : (d : ℕ) (c : ClassT) → slice_get u d ≡ Some c → (i : ℕ) (p : ParentT) →
      slice_get (clauses c) i ≡ Some p → (q : ℕ) → parent_number u c p ≡ Some q → (k : ℕ) (ys : Actuals) →
      ancestor u q k ≡ Some ys → ancestor u d k ≡ Some (put_in_all (clause_actuals u c p) ys)
  climbs d c at i p among q names k ys h = go (d == k) refl
    where
      member : is_member q (parent_numbers u c) ≡ true
      member = clause_member u c (clauses c) i p q among names

      down : descends (line_of u q) k ≡ true
      down = ancestor_descends u order is q k ys h

      go : (b : Bool) → (d == k) ≡ b → ancestor u d k ≡ Some (put_in_all (clause_actuals u c p) ys)
      go true e = absurd (no_way_back u order is.ordered d q c at member
          (subst (λ k. Reaches (graph_of u) q k) (sym (eqb-true d k e)) (descends_reaches u order is.ordered q k down)))
      go false e =
          let xs = defined d k
          (clause_descends u order is d k c at (parent_descends u c k q (clauses c) member down)) in
          let g = (via u order is d k c xs.0 at e xs.1).each i p among q names down in
          let same : g.ts ≡ ys = same_Some g.ts ys (sym g.gives ∙ h) in
          xs.1 ∙ ap Some (sym g.puts ∙ ap (put_in_all (clause_actuals u c p)) same)

-- ---- the entries of a name, with their signatures

filter_append : (test : Entry → Bool) (xs ys : List Entry) → filter test (xs ++ ys) ≡ filter test xs ++ filter test ys
filter_append test [] ys = refl
filter_append test (x ∷ xs) ys = go (test x) (filter_append test xs ys)
  where
    go : (b : Bool) → filter test (xs ++ ys) ≡ filter test xs ++ filter test ys →
        cond b (x ∷ filter test (xs ++ ys)) (filter test (xs ++ ys))
        ≡ cond b (x ∷ filter test xs) (filter test xs) ++ filter test ys
    go true e = ap (λ zs. x ∷ zs) e
    go false e = e

-- each feature of the class q has a signature
abbrev pub AreSigned : List ClassT → ℕ → Type 0
AreSigned u q =
    (n : List ℕ) (f : Feature) → feature (line_of u q) n ≡ Some f →
    (s : Signature) × (signature u (line_of u q) n ≡ Some s) × IsSigned u q f s

-- the classes of clauses, whose features are found by their names and have signatures
abbrev pub AreReady : List ClassT → ClassT → Type 0
AreReady u c =
    (q : ℕ) → is_member q (parent_numbers u c) ≡ true →
    AreSigned u q × AllOf (λ f. feature (line_of u q) f.name ≡ Some f) (features (line_of u q))

-- P of each signed entry, and the entries are these
pub record Pairs (P : SignedEntry → Type 0) (xs : List SignedEntry) (es : List Entry) : Type 0 where
  pub all : AllOf P xs
  pub same : map (λ s. s.entry) xs ≡ es

module _ (u : List ClassT) (c : ClassT) (n : List ℕ) where
  -- an entry by a clause that names the class q, whose feature has a signature there
  pub record IsBy (s : SignedEntry) (p : ParentT) (q : ℕ) : Type 0 where
    pub names : parent_number u c p ≡ Some q
    pub member : is_member q (parent_numbers u c) ≡ true
    pub place : ℕ
    pub among : slice_get (clauses c) place ≡ Some p
    pub clause : s.entry.clause ≡ p
    pub final : s.entry.final ≡ n
    pub renamed : s.entry.final ≡ final_name p s.entry.feature.name
    pub found : feature (line_of u q) s.entry.feature.name ≡ Some s.entry.feature
    pub theirs : Signature
    pub signature : signature u (line_of u q) s.entry.feature.name ≡ Some theirs
    pub is : s.signature ≡ with_actuals (clause_actuals u c p) theirs
    pub signed : IsSigned u q s.entry.feature theirs

  pub record IsSignedEntry (s : SignedEntry) : Type 0 where
    pub p : ParentT
    pub q : ℕ
    pub by : IsBy s p q

  abbrev signed_by : ParentT → Line → List Entry → List SignedEntry
  signed_by p l es =
      filter_map (λ e. option_map (signed (clause_actuals u c p) e) (signature u l e.feature.name)) es

  module _ (p : ParentT) (i q : ℕ) (among : slice_get (clauses c) i ≡ Some p) (names : parent_number u c p ≡ Some q)
      (are : AreSigned u q) where
    by_clause : (fs : List Feature) → AllOf (λ f. feature (line_of u q) f.name ≡ Some f) fs →
        Pairs IsSignedEntry (signed_by p (line_of u q) (entries_of n (map (entry p) fs)))
        (entries_of n (map (entry p) fs))
    by_clause [] h = record { all = tt; same = refl }
    by_clause (f ∷ fs) h = go (bytes_eq (final_name p f.name) n) refl (by_clause fs h.1)
      where
        signed_first : (o : Option Signature) → signature u (line_of u q) f.name ≡ o → (t : Signature) → o ≡ Some t →
            IsSigned u q f t → final_name p f.name ≡ n →
            Pairs IsSignedEntry (signed_by p (line_of u q) (entries_of n (map (entry p) fs)))
            (entries_of n (map (entry p) fs)) →
            Pairs IsSignedEntry (cons_option (option_map (signed (clause_actuals u c p) (entry p f)) o)
            (signed_by p (line_of u q) (entries_of n (map (entry p) fs))))
            (entry p f ∷ entries_of n (map (entry p) fs))
        signed_first None e t g is final rest = cc
        signed_first (Some s) e t g is final rest = record {
          all = (
            record {
              p = p;
              q = q;
              by = record {
                names = names;
                member = clause_member u c (clauses c) i p q among names;
                place = i;
                among = among;
                clause = refl;
                final = final;
                renamed = refl;
                found = h.0;
                theirs = s;
                signature = e;
                is = refl;
                signed = subst (IsSigned u q f) (sym (same_Some s t g)) is;
              };
            },
            rest.all,
          );
          same = ap (λ es. entry p f ∷ es) rest.same;
        }

        go : (b : Bool) → bytes_eq (final_name p f.name) n ≡ b →
            Pairs IsSignedEntry (signed_by p (line_of u q) (entries_of n (map (entry p) fs)))
            (entries_of n (map (entry p) fs)) →
            Pairs IsSignedEntry
            (signed_by p (line_of u q)
            (cond b (entry p f ∷ entries_of n (map (entry p) fs)) (entries_of n (map (entry p) fs))))
            (cond b (entry p f ∷ entries_of n (map (entry p) fs)) (entries_of n (map (entry p) fs)))
        go false e rest = rest
        go true e rest =
            let s = are f.name f h.0 in
            signed_first (signature u (line_of u q) f.name) refl s.0 s.1 s.2 (same_bytes (final_name p f.name) n e) rest

  both : (xs ys : List SignedEntry) (es fs : List Entry) → Pairs IsSignedEntry xs es → Pairs IsSignedEntry ys fs →
      Pairs IsSignedEntry (xs ++ ys) (es ++ fs)
  both xs ys es fs h g = record {
    all = all_append IsSignedEntry xs ys h.all g.all;
    same = map_append (λ s. s.entry) xs ys ∙ ap₂ ◌++◌ h.same g.same;
  }

  by_clauses : AreReady u c → (ps : List ParentT) →
      ((i : ℕ) (p : ParentT) → slice_get ps i ≡ Some p → (j : ℕ) × (slice_get (clauses c) j ≡ Some p)) →
      Pairs IsSignedEntry (signed_entries u c (lines_of u c ps) n) (entries_of n (entries (lines_of u c ps)))
  by_clauses ready [] sub = record { all = tt; same = refl }
  by_clauses ready (p ∷ ps) sub =
      let l = line_by (line_of u) (parent_number u c p) in
      subst (Pairs IsSignedEntry (signed_entries u c (lines_of u c (p ∷ ps)) n))
      (sym (filter_append (λ e. bytes_eq e.final n) (map (entry p) (features l)) (entries (lines_of u c ps))))
      (both (signed_by p l (entries_of n (map (entry p) (features l)))) (signed_entries u c (lines_of u c ps) n)
      (entries_of n (map (entry p) (features l))) (entries_of n (entries (lines_of u c ps)))
      (first (parent_number u c p) refl)
      (by_clauses ready ps (λ i r at. sub (suc i) r at)))
    where
      first : (o : Option ℕ) → parent_number u c p ≡ o →
          Pairs IsSignedEntry
          (signed_by p (line_by (line_of u) o) (entries_of n (map (entry p) (features (line_by (line_of u) o)))))
          (entries_of n (map (entry p) (features (line_by (line_of u) o))))
      first None e = record { all = tt; same = refl }
      first (Some q) e =
          let j = sub 0 p refl in
          let r = ready q (clause_member u c (clauses c) j.0 p q j.1 e) in
          by_clause p j.0 q j.1 e r.0 (features (line_of u q)) r.1

  pub signed_pairs : AreReady u c →
      Pairs IsSignedEntry (signed_entries u c (lines_of u c (clauses c)) n)
      (entries_of n (entries (lines_of u c (clauses c))))
  signed_pairs ready = by_clauses ready (clauses c) (λ i p at. (i, at))

-- ---- the step from the parents to the class

module _ (u : List ClassT) (order : List ℕ) (is : IsSetting u order) where
  -- a name doesn't clash
  not_clashing : (c : ClassT) (n : List ℕ) (o : Origin) → clashing_name c n o ≡ [] → o ≡ clashing → ⊥
  not_clashing c n clashing h e = cc
  not_clashing c n deferred h e = cc
  not_clashing c n (declared_as x) h e = cc

  pub no_clash : (d : ℕ) (c : ClassT) → slice_get u d ≡ Some c → (n : List ℕ) (f : Feature) →
      feature (line_of u d) n ≡ Some f → f.origin ≡ clashing → ⊥
  no_clash d c at n f found =
      let none = found_has (λ f. origin_faults c f ≡ []) (λ f. bytes_eq f.name n) (features (line_of u d)) f
      (is.features d c at).origins found in
      not_clashing c f.name f.origin
      (none_left (clashing_name c f.name f.origin) (deferred_name c f.name f.origin) none)

  module _ (d : ℕ) (c : ClassT) (at : slice_get u d ≡ Some c)
      (parents : (q : ℕ) → is_member q (parent_numbers u c) ≡ true → AreSigned u q) where
    abbrev pub ups : Ups
    ups = lines_of u c (clauses c)

    unfolds : line_of u d ≡ line d c ups
    unfolds = unfolded u order is.hierarchy.ordered d c at

    pub ready : AreReady u c
    ready q member =
        let k = parent_class u order is.hierarchy.ordered d q c at member in (
          parents q member,
          subst (λ l. AllOf (λ f. feature l f.name ≡ Some f) (features l))
              (sym (unfolded u order is.hierarchy.ordered q k.0 k.1)) (each_found q k.0 (lines_of u k.0 (clauses k.0))),
        )

    -- the signature of an entry, seen in the class
    pub seen : (n : List ℕ) (s : SignedEntry) → IsSignedEntry u c n s → IsSigned u d s.entry.feature s.signature
    seen n s w =
        let b = w.by in
        let g = b.signed in
        let ca = clause_actuals u c w.p in
        record {
          declaration = g.declaration;
          source = g.source;
          above = record {
            class = g.above.class;
            at = g.above.at;
            declares = g.above.declares;
            actuals = put_in_all ca g.above.actuals;
            gives = climbs u order is.hierarchy is.defined d c at b.place w.p b.among w.q b.names
                g.declaration.class_number g.above.actuals g.above.gives;
          };
          signed = b.is
              ∙ (ap (with_actuals ca) g.signed
              ∙ actuals_compose g.above.actuals ca (declared_signature u g.above.class g.declaration.tree));
          version = g.version;
        }

    version_of : (k : KindT) (y : Declaration) → y.tree.kind ≡ k → IsVersion (declared_origin k y) y
    version_of deferred_body y e = tt
    version_of attribute y e = (refl, ap is_deferred_kind e)
    version_of (constant x) y e = (refl, ap is_deferred_kind e)
    version_of (routine groups body) y e = (refl, ap is_deferred_kind e)

    -- the leading entry of a name that isn't declared
    pub record IsLed (n : List ℕ) : Type 0 where
      pub by : SignedEntry
      pub leads : leading (λ s. s.entry) (signed_entries u c ups n) ≡ Some by
      pub first : leading (λ e. e) (entries_of n (entries ups)) ≡ Some by.entry
      pub signed : IsSignedEntry u c n by

    some_entry : (n : List ℕ) (es : List Entry) → is_among (map (λ e. e.final) es) n ≡ true →
        (e : Entry) × (slice_get (entries_of n es) 0 ≡ Some e)
    some_entry n [] h = cc
    some_entry n (e ∷ es) h = go (bytes_eq e.final n) (bytes_eq n e.final) refl refl h (some_entry n es)
      where
        go : (a b : Bool) → bytes_eq e.final n ≡ a → bytes_eq n e.final ≡ b →
            (b || is_among (map (λ e. e.final) es) n) ≡ true →
            (is_among (map (λ e. e.final) es) n ≡ true → (x : Entry) × (slice_get (entries_of n es) 0 ≡ Some x)) →
            (x : Entry) × (slice_get (cond a (e ∷ entries_of n es) (entries_of n es)) 0 ≡ Some x)
        go true b f g h later = (e, refl)
        go false true f g h later = absurd (apart (bytes_eq e.final n) (turned e.final n g) f)
        go false false f g h later = later h

    some_signed : (xs : List SignedEntry) (e : Entry) → slice_get (map (λ s. s.entry) xs) 0 ≡ Some e →
        (s : SignedEntry) × (slice_get xs 0 ≡ Some s)
    some_signed [] e h = cc
    some_signed (x ∷ xs) e h = (x, refl)

    undeclared : (n : List ℕ) (xs : List DeclT) → find (λ x. has_name x.names n) xs ≡ None →
        is_among (map (λ n. n.name) (flat_map (λ x. x.names) xs)) n ≡ false
    undeclared n [] h = refl
    undeclared n (x ∷ xs) h = go (has_name x.names n) refl h (undeclared n xs)
      where
        none : (ns : List NameAt) → has_name ns n ≡ false → is_among (map (λ n. n.name) ns) n ≡ false
        none [] h = refl
        none (m ∷ ns) h = is_false _ (λ t. or_cases ⊥ (bytes_eq n m.name) (is_among (map (λ n. n.name) ns) n) t
            (λ e. apart (has_name (m ∷ ns) n) (or_left _ _ (turned m.name n e)) h)
            (λ e. apart (is_among (map (λ n. n.name) ns) n) e (none ns (is_false _ (λ k.
            apart (has_name (m ∷ ns) n) (or_right (bytes_eq m.name n) _ k) h)))))

        go : (b : Bool) → has_name x.names n ≡ b → cond b (Some x) (find (λ x. has_name x.names n) xs) ≡ None →
            (find (λ x. has_name x.names n) xs ≡ None →
            is_among (map (λ n. n.name) (flat_map (λ x. x.names) xs)) n ≡ false) →
            is_among (map (λ n. n.name) (x.names ++ flat_map (λ x. x.names) xs)) n ≡ false
        go true e h later = cc
        go false e h later =
            ap (λ ns. is_among ns n) (map_append (λ n. n.name) x.names (flat_map (λ x. x.names) xs))
            ∙ (among_append (map (λ n. n.name) x.names) (map (λ n. n.name) (flat_map (λ x. x.names) xs)) n
            ∙ ap₂ ◌||◌ (none x.names e) (later h))

    pub led : (n : List ℕ) → is_among (all_names d c ups) n ≡ true → declaration_of c n ≡ None → IsLed n
    led n among e =
        let pairs = signed_pairs u c n ready in
        let inherited : is_among (map (λ e. e.final) (entries ups)) n ≡ true =
        sym (among_append (map (λ n. n.name) (declared_names c)) (map (λ e. e.final) (entries ups)) n
        ∙ ap (λ b. b || is_among (map (λ e. e.final) (entries ups)) n) (undeclared n (declarations c) e)) ∙ among in
        let x = some_entry n (entries ups) inherited in
        let f = some_signed (signed_entries u c ups n) x.0 (ap (λ es. slice_get es 0) pairs.same ∙ x.1) in
        let l = leading_some (λ s. s.entry) (signed_entries u c ups n) f.0 f.1 in
        led_by pairs l.0 l.1
      where
        led_by : Pairs (IsSignedEntry u c n) (signed_entries u c ups n) (entries_of n (entries ups)) →
            (l : SignedEntry) → leading (λ s. s.entry) (signed_entries u c ups n) ≡ Some l → IsLed n
        led_by pairs l leads = record {
          by = l;
          leads = leads;
          first = sym (ap (leading (λ e. e)) pairs.same)
              ∙ (sym (leading_map (λ s. s.entry) (signed_entries u c ups n)) ∙ ap (option_map (λ s. s.entry)) leads);
          signed = leading_has (λ s. s.entry) (IsSignedEntry u c n) (signed_entries u c ups n) l pairs.all leads;
        }

    signed_by_name : (n : List ℕ) (o : Option DeclT) → declaration_of c n ≡ o →
        is_among (all_names d c ups) n ≡ true → ((feature_by d (entries ups) n o).origin ≡ clashing → ⊥) →
        (s : Signature) × (signature u (line d c ups) n ≡ Some s) × IsSigned u d (feature_by d (entries ups) n o) s
    signed_by_name n (Some x) e among apart = (
      declared_signature u c x,
      ap (λ o. option_or (option_map (declared_signature u c) o)
          (option_map (λ s. s.signature) (leading (λ s. s.entry) (signed_entries u c ups n)))) e,
      record {
        declaration = record { class_number = d; name = n; tree = x };
        source = refl;
        above = record {
          class = c;
          at = at;
          declares = e;
          actuals = own_formals c;
          gives = own_ancestor u order is.hierarchy d c at;
        };
        signed = sym (own_signature u d c (declared_signature u c x) (count_is u order is.hierarchy d c at)
            (is.types d c at n x e));
        version = version_of x.kind (record { class_number = d; name = n; tree = x }) refl;
      },
    )
    signed_by_name n None e among apart =
        let w = led n among e in
        let g = seen n w.by w.signed in (
          w.by.signature,
          ap (λ o. option_or (option_map (declared_signature u c) o)
              (option_map (λ s. s.signature) (leading (λ s. s.entry) (signed_entries u c ups n)))) e
              ∙ ap (option_map (λ s. s.signature)) w.leads,
          record {
            declaration = g.declaration;
            source = ap (option_and_then (λ e. e.feature.source)) w.first ∙ g.source;
            above = g.above;
            signed = g.signed;
            version = joined_version (entries_of n (entries ups)) w.by.entry g.declaration w.first g.version apart;
          },
        )

    pub signed_step : AreSigned u d
    signed_step n f found =
        let here = sym (ap (λ l. feature l n) unfolds) ∙ found in
        let m = found_made d c ups n f here in
        let r = signed_by_name n (declaration_of c n) refl m.1
        (subst (λ (f : Feature). f.origin ≡ clashing → ⊥) m.0 (no_clash d c at n f found)) in (
          r.0,
          ap (λ l. signature u l n) unfolds ∙ r.1,
          subst (λ f. IsSigned u d f r.0) (sym m.0) r.2,
        )

  signed_by_parents : Step u order is.hierarchy.ordered (AreSigned u)
  signed_by_parents d c at parents = signed_step d c at parents

  pub all_signed : (d : ℕ) → AreSigned u d
  all_signed d n f found = ⊎_elim
      (λ (c : (c : ClassT) × (slice_get u d ≡ Some c)).
      by_parents u order is.hierarchy.ordered (AreSigned u) signed_by_parents d c.0 c.1 n f found)
      (λ (e : slice_get u d ≡ None).
      let z : None ≡ Some f = sym (ap (λ l. feature l n) (no_line u d e)) ∙ found in cc)
      (class_or_none u d)
