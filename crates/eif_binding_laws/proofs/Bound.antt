-- What the names of ancestors are bound to.
use Rattle.std.proofs.Common.{◌≡◌, ℕ, zero, suc, Bool, true, false, List, [], ◌∷◌, Option, Some, None, refl, sym, ap, subst, ◌∙◌, ⊎_elim}
use Rattle.std.proofs.lemmas.Bool.{eqb-true, eqb-false}
use Rattle.std.proofs.lemmas.Option.{same_Some}
use Rattle.std.specs.List.{filter, list_all, cons_option}
use Rattle.std.specs.Option.{option_map, option_or}
use Rattle.std.specs.Prelude.{slice_get, not, ◌||◌, ◌&&◌, ◌==◌, if◌then◌else◌, is_none}
use Rattle.std.specs.Str.{bytes_eq}
use Rattle.eif_ancestry.proofs.Members.{or_cases, or_left, or_right}
use Rattle.eif_base.specs.Numbering.{is_among}
use Rattle.eif_classes.specs.Binding.{own_name, is_selected_in, picked, bind, candidates}
use Rattle.eif_classes.specs.Descent.{descends, any_descends, above}
use Rattle.eif_classes.specs.Features.{has_feature}
use Rattle.eif_classes.specs.Names.{agreed, final_name}
use Rattle.eif_feature_rules.specs.SelectionRules.{is_undecided}
use Rattle.eif_lineage_laws.specs.Lineages.{line_over}
use Rattle.eif_lineage_laws.proofs.Descending.{lines_of, no_line, class_or_none, has_class, descends_by, descends_reaches, parent_descends, above_is_listed}
use Rattle.eif_lineage_laws.proofs.Unfolding.{by_parents, Step, unfolded}
use Rattle.eif_system.specs.Graph.{is_member, IsOrder}
use Rattle.eif_system.specs.Inheritance.{clauses, parent_number, graph_of}
use Rattle.eif_system.specs.Lineage.{line_by, line_of}
use Rattle.eif_tree.specs.Tree.{ParentT, ClassT}
use Rattle.eif_type_laws.proofs.Ways.{some_clause, clause_member}
use Rattle.eif_binding_laws.proofs.Searches.{bytes_same, same_bytes, among_filter}
use Rattle.eif_binding_laws.proofs.Inherited.{inherited_has, final_among}

-- ---- one of several names

agreed_among : (ns : List (List ℕ)) (n : List ℕ) → agreed ns ≡ Some n → is_among ns n ≡ true
agreed_among [] n h = cc
agreed_among (m ∷ ns) n h = go (list_all (bytes_eq m) ns) h
  where
    go : (b : Bool) → (if b then Some m else None) ≡ Some n → (bytes_eq n m || is_among ns n) ≡ true
    go true h = or_left _ _ (subst (λ k. bytes_eq k m ≡ true) (same_Some m n h) (bytes_same m))
    go false h = cc

-- what is picked is a candidate
pub picked_among : (ps : List ParentT) (ns : List (List ℕ)) (n : List ℕ) → picked ps ns ≡ Some n →
    is_among ns n ≡ true
picked_among ps ns n h = go (agreed ns) refl h
  where
    go : (o : Option (List ℕ)) → agreed ns ≡ o → option_or o (agreed (filter (is_selected_in ps) ns)) ≡ Some n →
        is_among ns n ≡ true
    go (Some m) e h = agreed_among ns n (e ∙ h)
    go None e h = among_filter (is_selected_in ps) ns n (agreed_among (filter (is_selected_in ps) ns) n h)

-- where there are candidates and they are decided one is picked
decided : (ps : List ParentT) (ns : List (List ℕ)) (m : List ℕ) → is_among ns m ≡ true →
    is_undecided ps ns ≡ false → (n : List ℕ) × (picked ps ns ≡ Some n)
decided ps [] m h g = cc
decided ps (y ∷ ys) m h g = go (list_all (bytes_eq y) ys) (agreed (filter (is_selected_in ps) (y ∷ ys))) g
  where
    go : (b : Bool) (o : Option (List ℕ)) → (not b && is_none o) ≡ false →
        (n : List ℕ) × (option_or (if b then Some y else None) o ≡ Some n)
    go true o g = (y, refl)
    go false (Some n) g = (n, refl)
    go false None g = cc

-- ---- candidates

module _ (u : List ClassT) (c : ClassT) (k : ℕ) (m : List ℕ) where
  -- the name is that which the name of a clause's class has
  pub record IsCandidate (ps : List ParentT) (n : List ℕ) : Type 0 where
    pub place : ℕ
    pub clause : ParentT
    pub among : slice_get ps place ≡ Some clause
    pub q : ℕ
    pub names : parent_number u c clause ≡ Some q
    pub name : List ℕ
    pub bound : bind (line_of u q) k m ≡ Some name
    pub final : n ≡ final_name clause name

  later_candidate : (p : ParentT) (ps : List ParentT) (n : List ℕ) → IsCandidate ps n → IsCandidate (p ∷ ps) n
  later_candidate p ps n w = record {
    place = suc w.place;
    clause = w.clause;
    among = w.among;
    q = w.q;
    names = w.names;
    name = w.name;
    bound = w.bound;
    final = w.final;
  }

  pub candidate_is : (ps : List ParentT) (n : List ℕ) → is_among (candidates (lines_of u c ps) k m) n ≡ true →
      IsCandidate ps n
  candidate_is [] n h = cc
  candidate_is (p ∷ ps) n h = first (parent_number u c p) refl h (λ t. candidate_is ps n t)
    where
      of_class : (q : ℕ) → parent_number u c p ≡ Some q → (o : Option (List ℕ)) → bind (line_of u q) k m ≡ o →
          is_among (cons_option (option_map (final_name p) o) (candidates (lines_of u c ps) k m)) n ≡ true →
          (is_among (candidates (lines_of u c ps) k m) n ≡ true → IsCandidate ps n) → IsCandidate (p ∷ ps) n
      of_class q e None b h later = later_candidate p ps n (later h)
      of_class q e (Some x) b h later = or_cases _ (bytes_eq n (final_name p x)) (is_among (candidates (lines_of u c ps) k m) n) h
          (λ t. record {
            place = 0;
            clause = p;
            among = refl;
            q = q;
            names = e;
            name = x;
            bound = b;
            final = same_bytes n (final_name p x) t;
          })
          (λ t. later_candidate p ps n (later t))

      first : (o : Option ℕ) → parent_number u c p ≡ o →
          is_among (cons_option (option_map (final_name p) (bind (line_by (line_of u) o) k m))
          (candidates (lines_of u c ps) k m)) n ≡ true →
          (is_among (candidates (lines_of u c ps) k m) n ≡ true → IsCandidate ps n) → IsCandidate (p ∷ ps) n
      first None e h later = later_candidate p ps n (later h)
      first (Some q) e h later = of_class q e (bind (line_of u q) k m) refl h later

  among_later : (o : Option (List ℕ)) (ns : List (List ℕ)) (n : List ℕ) → is_among ns n ≡ true →
      is_among (cons_option o ns) n ≡ true
  among_later None ns n h = h
  among_later (Some x) ns n h = or_right (bytes_eq n x) _ h

  pub is_candidate : (ps : List ParentT) (i : ℕ) (p : ParentT) (q : ℕ) (x : List ℕ) → slice_get ps i ≡ Some p →
      parent_number u c p ≡ Some q → bind (line_of u q) k m ≡ Some x →
      is_among (candidates (lines_of u c ps) k m) (final_name p x) ≡ true
  is_candidate [] i p q x at names bound = cc
  is_candidate (r ∷ ps) zero p q x at names bound =
      let e : r ≡ p = same_Some r p at in
      let names_r : parent_number u c r ≡ Some q =
      subst (λ (p : ParentT). parent_number u c p ≡ Some q) (sym e) names in
      let b : bind (line_by (line_of u) (parent_number u c r)) k m ≡ Some x =
      ap (λ o. bind (line_by (line_of u) o) k m) names_r ∙ bound in
      ap (λ o. is_among (cons_option (option_map (final_name r) o) (candidates (lines_of u c ps) k m)) (final_name p x)) b
      ∙ or_left _ _ (subst (λ (p : ParentT). bytes_eq (final_name p x) (final_name r x) ≡ true) e
      (bytes_same (final_name r x)))
  is_candidate (r ∷ ps) (suc i) p q x at names bound =
      among_later (option_map (final_name r) (bind (line_by (line_of u) (parent_number u c r)) k m)) _ (final_name p x)
      (is_candidate ps i p q x at names bound)

  -- nothing is a candidate where the classes of all clauses bind nothing
  no_candidates : (ps : List ParentT) →
      ((i : ℕ) (p : ParentT) (q : ℕ) → slice_get ps i ≡ Some p → parent_number u c p ≡ Some q →
      bind (line_of u q) k m ≡ None) → candidates (lines_of u c ps) k m ≡ []
  no_candidates [] h = refl
  no_candidates (p ∷ ps) h =
      ap (λ o. cons_option (option_map (final_name p) o) (candidates (lines_of u c ps) k m))
      (first (parent_number u c p) refl)
      ∙ no_candidates ps (λ i p q at names. h (suc i) p q at names)
    where
      first : (o : Option ℕ) → parent_number u c p ≡ o → bind (line_by (line_of u) o) k m ≡ None
      first None e = refl
      first (Some q) e = h 0 p q refl e

-- ---- classes in an order of inheritance

module _ (u : List ClassT) (order : List ℕ) (is : IsOrder (graph_of u) order) where
  abbrev pub bound_by : ℕ → ClassT → ℕ → List ℕ → Bool → Option (List ℕ)
  bound_by d c k m own =
      if own then own_name (line_over u d c) m else picked (clauses c) (candidates (lines_of u c (clauses c)) k m)

  pub bind_by : (d : ℕ) (c : ClassT) (k : ℕ) (m : List ℕ) → slice_get u d ≡ Some c →
      bind (line_of u d) k m ≡ bound_by d c k m (d == k)
  bind_by d c k m at = ap (λ l. bind l k m) (unfolded u order is d c at)

  -- ---- what is no name is bound to nothing

  module _ (k : ℕ) (m : List ℕ) (no : has_feature (line_of u k) m ≡ false) where
    abbrev IsUnbound : ℕ → Type 0
    IsUnbound d = bind (line_of u d) k m ≡ None

    unbound_step : Step u order is IsUnbound
    unbound_step d c at parents = bind_by d c k m at ∙ go (d == k) refl
      where
        go : (b : Bool) → (d == k) ≡ b → bound_by d c k m b ≡ None
        go true e =
            let none = ap (λ l. has_feature l m) (sym (unfolded u order is d c at))
            ∙ (ap (λ k. has_feature (line_of u k) m) (eqb-true d k e) ∙ no) in
            ap (λ b. if b then Some m else None) none
        go false e =
            ap (picked (clauses c)) (no_candidates u c k m (clauses c)
            (λ i p q among names. parents q (clause_member u c (clauses c) i p q among names)))

    pub unbound : (d : ℕ) → bind (line_of u d) k m ≡ None
    unbound d = ⊎_elim
        (λ (c : (c : ClassT) × (slice_get u d ≡ Some c)). by_parents u order is IsUnbound unbound_step d c.0 c.1)
        (λ (e : slice_get u d ≡ None). ap (λ l. bind l k m) (no_line u d e))
        (class_or_none u d)

  -- ---- each name of an ancestor is bound

  -- no ancestor's feature has several candidates of which not one is selected
  abbrev pub AreDecided : Type 0
  AreDecided =
      (d : ℕ) (c : ClassT) → slice_get u d ≡ Some c → (k : ℕ) (m : List ℕ) →
      is_member k (above (line_of u d)) ≡ true → has_feature (line_of u k) m ≡ true →
      is_undecided (clauses c) (candidates (lines_of u c (clauses c)) k m) ≡ false

  -- a candidate is a name of the class
  pub candidate_named : (d : ℕ) (c : ClassT) (i : ℕ) (p : ParentT) (q : ℕ) (m : List ℕ) → slice_get u d ≡ Some c →
      slice_get (clauses c) i ≡ Some p → parent_number u c p ≡ Some q → has_feature (line_of u q) m ≡ true →
      has_feature (line_of u d) (final_name p m) ≡ true
  candidate_named d c i p q m at among names has =
      ap (λ l. has_feature l (final_name p m)) (unfolded u order is d c at)
      ∙ inherited_has d c (lines_of u c (clauses c)) (final_name p m)
      (final_among u c (clauses c) i p q m among names has)

  -- ---- what is bound

  abbrev BindsNames : ℕ → Type 0
  BindsNames d =
      (k : ℕ) (m n : List ℕ) → bind (line_of u d) k m ≡ Some n →
      (has_feature (line_of u d) n ≡ true) × (descends (line_of u d) k ≡ true)

  binds_names : Step u order is BindsNames
  binds_names d c at parents k m n h = go (d == k) refl (sym (bind_by d c k m at) ∙ h)
    where
      own : (b : Bool) → has_feature (line_over u d c) m ≡ b → (if b then Some m else None) ≡ Some n →
          has_feature (line_of u d) n ≡ true
      own true e h =
          ap (λ l. has_feature l n) (unfolded u order is d c at)
          ∙ subst (λ n. has_feature (line_over u d c) n ≡ true) (same_Some m n h) e
      own false e h = cc

      go : (b : Bool) → (d == k) ≡ b → bound_by d c k m b ≡ Some n →
          (has_feature (line_of u d) n ≡ true) × (descends (line_of u d) k ≡ true)
      go true e h = (
        own (has_feature (line_over u d c) m) refl h,
        descends_by u order is d k c at ∙ or_left (d == k) _ e,
      )
      go false e h =
          let s = candidate_is u c k m (clauses c) n (picked_among (clauses c) _ n h) in
          let member = clause_member u c (clauses c) s.place s.clause s.q s.among s.names in
          let r = parents s.q member k m s.name s.bound in (
            subst (λ n. has_feature (line_of u d) n ≡ true) (sym s.final)
                (candidate_named d c s.place s.clause s.q s.name at s.among s.names r.0),
            descends_by u order is d k c at
                ∙ or_right (d == k) _ (parent_descends u c k s.q (clauses c) member r.1),
          )

  -- to a name of the class, of an ancestor
  pub bound_names : (d k : ℕ) (m n : List ℕ) → bind (line_of u d) k m ≡ Some n →
      (has_feature (line_of u d) n ≡ true) × (descends (line_of u d) k ≡ true)
  bound_names d k m n h = ⊎_elim
      (λ (c : (c : ClassT) × (slice_get u d ≡ Some c)). by_parents u order is BindsNames binds_names d c.0 c.1 k m n h)
      (λ (e : slice_get u d ≡ None). let z : None ≡ Some n = sym (ap (λ l. bind l k m) (no_line u d e)) ∙ h in cc)
      (class_or_none u d)

  module _ (decide : AreDecided) where
    abbrev AreBound : ℕ → Type 0
    AreBound d =
        (k : ℕ) (m : List ℕ) → descends (line_of u d) k ≡ true → has_feature (line_of u k) m ≡ true →
        (n : List ℕ) × (bind (line_of u d) k m ≡ Some n) × (has_feature (line_of u d) n ≡ true)

    bound_step : Step u order is AreBound
    bound_step d c at parents k m down has = go (d == k) refl (sym (descends_by u order is d k c at) ∙ down)
      where
        go : (b : Bool) → (d == k) ≡ b → (b || any_descends (lines_of u c (clauses c)) k) ≡ true →
            (n : List ℕ) × (bind (line_of u d) k m ≡ Some n) × (has_feature (line_of u d) n ≡ true)
        go true e any =
            let here = ap (λ d. has_feature (line_of u d) m) (eqb-true d k e) ∙ has in
            let there = ap (λ l. has_feature l m) (sym (unfolded u order is d c at)) ∙ here in (
              m,
              bind_by d c k m at ∙ (ap (bound_by d c k m) e ∙ ap (λ b. if b then Some m else None) there),
              here,
            )
        go false e any =
            let w = some_clause u c k (clauses c) any in
            let r = parents w.q (clause_member u c (clauses c) w.place w.clause w.q w.among w.names) k m w.down has in
            let first = is_candidate u c k m (clauses c) w.place w.clause w.q r.0 w.among w.names r.1 in
            let listed = above_is_listed u order is d k c at
            record { other = eqb-false d k e; above = descends_reaches u order is d k down } in
            let p = decided (clauses c) (candidates (lines_of u c (clauses c)) k m) _ first
            (decide d c at k m listed has) in
            let bound = bind_by d c k m at ∙ (ap (bound_by d c k m) e ∙ p.1) in
            (p.0, bound, (bound_names d k m p.0 bound).0)

    pub names_bound : (d k : ℕ) (m : List ℕ) → descends (line_of u d) k ≡ true → has_feature (line_of u k) m ≡ true →
        (n : List ℕ) × (bind (line_of u d) k m ≡ Some n) × (has_feature (line_of u d) n ≡ true)
    names_bound d k m down has =
        let c = has_class u d k down in by_parents u order is AreBound bound_step d c.0 c.1 k m down has
