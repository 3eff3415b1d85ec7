-- Where no derivation breaks a rule, what classes give their ancestors is defined.
use Rattle.std.proofs.Common.{◌≡◌, ℕ, Bool, true, false, List, [], ◌∷◌, Option, Some, None, refl, sym, ap, ◌∙◌}
use Rattle.std.proofs.lemmas.Bool.{eqb-false}
use Rattle.std.specs.List.{find, list_all, list_any, filter_map}
use Rattle.std.specs.Option.{option_map, option_map_or, option_and_then, option_to_list}
use Rattle.std.specs.Prelude.{slice_get, not, ◌&&◌, ◌||◌, ◌==◌, if◌then◌else◌, is_some}
use Rattle.eif_ancestry.proofs.Members.{place_of}
use Rattle.eif_base.specs.declared.code.Code.TheVariants as code
use Rattle.eif_classes.specs.Ancestry.{Way, are_alike, is_small, if_small, common, way, derived, ways, ancestor}
use Rattle.eif_classes.specs.Descent.{descends, any_descends, above}
use Rattle.eif_classes.specs.Resolution.{own_formals, clause_actuals}
use Rattle.eif_classes.specs.Types.{Actuals, put_in_all}
use Rattle.eif_feature_rules.specs.DerivationRules.{are_defined, is_large, differing, fault_at_way, large_derivation, differing_derivation, ancestor_faults, name_of, derivation_faults}
use Rattle.eif_lineage_laws.proofs.Descending.{lines_of, has_class, descends_by, descends_reaches, above_is_listed}
use Rattle.eif_lineage_laws.proofs.EachItem.{all_at}
use Rattle.eif_lineage_laws.proofs.NoFaults.{none_left, none_right, none_of_each, none_mapped}
use Rattle.eif_lineage_laws.proofs.Unfolding.{first_number, later_number, by_parents, Step, unfolded}
use Rattle.eif_system.specs.Graph.{is_member, IsOrder}
use Rattle.eif_system.specs.Inheritance.{clauses, parent_number, graph_of}
use Rattle.eif_system.specs.Lineage.{line_by, line_of}
use Rattle.eif_tree.specs.Tree.{ParentT, ClassT}
use Rattle.eif_type_laws.specs.ClassTypes.{Defined}
use Rattle.eif_type_laws.proofs.SameTypes.{and_both}

-- ---- ways without a fault

none_found : {A : Type 0} (p : A → Bool) (xs : List A) → find p xs ≡ None → list_any p xs ≡ false
none_found p [] h = refl
none_found {A} p (x ∷ xs) h = go (p x) h (none_found p xs)
  where
    go : (b : Bool) → (if b then Some x else find p xs) ≡ None → (find p xs ≡ None → list_any p xs ≡ false) →
        (b || list_any p xs) ≡ false
    go true h r = cc
    go false h r = r h

all_alike : (o : Option Actuals) (ws : List Way) → find (λ v. not (are_alike o v.actuals)) ws ≡ None →
    list_all (λ v. are_alike o v.actuals) ws ≡ true
all_alike o [] h = refl
all_alike o (w ∷ ws) h = go (are_alike o w.actuals) h (all_alike o ws)
  where
    go : (b : Bool) → (if not b then Some w else find (λ v. not (are_alike o v.actuals)) ws) ≡ None →
        (find (λ v. not (are_alike o v.actuals)) ws ≡ None → list_all (λ v. are_alike o v.actuals) ws ≡ true) →
        (b && list_all (λ v. are_alike o v.actuals) ws) ≡ true
    go true h r = r h
    go false h r = cc

-- actuals that are defined and not too large
small_given : (o : Option Actuals) → is_some o ≡ true → option_map_or (λ xs. not (is_small xs)) o false ≡ false →
    (xs : Actuals) × (option_and_then if_small o ≡ Some xs)
small_given None s h = cc
small_given (Some xs) s h = (xs, go (is_small xs) h)
  where
    go : (b : Bool) → not b ≡ false → (if b then Some xs else None) ≡ Some xs
    go true h = refl
    go false h = cc

first_of_any : (a b : Bool) → (a || b) ≡ false → a ≡ false
first_of_any true b h = cc
first_of_any false b h = refl

first_of_all : (a b : Bool) → (a && b) ≡ true → a ≡ true
first_of_all true b h = refl
first_of_all false b h = cc

-- ways that are defined and break no rule give one list
one_list : (c : ClassT) (name : List ℕ) (w : Way) (ws : List Way) → are_defined (w ∷ ws) ≡ true →
    ancestor_faults c name (w ∷ ws) ≡ [] → (xs : Actuals) × (common (w ∷ ws) ≡ Some xs)
one_list c name w ws given h =
    let f = small_given w.actuals (first_of_all (is_some w.actuals) (are_defined ws) given)
    (first_of_any (is_large w) (list_any is_large ws) none_large) in
    (f.0, ap (λ b. if b then option_and_then if_small w.actuals else None) (all_alike w.actuals ws same) ∙ f.1)
  where
    large : option_to_list (option_map (fault_at_way c code.Xlim 6 name) (find is_large (w ∷ ws))) ≡ []
    large = ap (λ b. if b then option_to_list (option_map (fault_at_way c code.Xlim 6 name) (find is_large (w ∷ ws)))
        else [])
        (sym given)
        ∙ none_left (large_derivation c name (w ∷ ws)) (differing_derivation c name (w ∷ ws)) h

    none_large : list_any is_large (w ∷ ws) ≡ false
    none_large = none_found is_large (w ∷ ws)
        (none_mapped (fault_at_way c code.Xlim 6 name) (find is_large (w ∷ ws)) large)

    judged : (are_defined (w ∷ ws) && not (list_any is_large (w ∷ ws))) ≡ true
    judged = and_both _ _ given (ap not none_large)

    differ : option_to_list (option_map (fault_at_way c code.Xanc 1 name) (differing (w ∷ ws))) ≡ []
    differ = ap (λ b. if b then option_to_list (option_map (fault_at_way c code.Xanc 1 name) (differing (w ∷ ws)))
        else [])
        (sym judged)
        ∙ none_right (large_derivation c name (w ∷ ws)) (differing_derivation c name (w ∷ ws)) h

    same : find (λ v. not (are_alike w.actuals v.actuals)) ws ≡ None
    same = none_mapped (fault_at_way c code.Xanc 1 name) (differing (w ∷ ws)) differ

-- ---- the ways of a class

module _ (u : List ClassT) (c : ClassT) (k : ℕ) where
  -- the classes of the clauses have what they give k
  ways_defined : (ps : List ParentT) →
      ((q : ℕ) → is_member q (filter_map (parent_number u c) ps) ≡ true → descends (line_of u q) k ≡ true →
      is_some (ancestor u q k) ≡ true) →
      are_defined (ways u c (lines_of u c ps) k) ≡ true
  ways_defined [] f = refl
  ways_defined (p ∷ ps) f =
      first (parent_number u c p) refl
      (ways_defined ps (λ q m. f q (later_number (parent_number u c p) q (filter_map (parent_number u c) ps) m)))
    where
      some_put : (o : Option Actuals) → is_some o ≡ true →
          is_some (option_map (put_in_all (clause_actuals u c p)) o) ≡ true
      some_put None h = cc
      some_put (Some xs) h = refl

      of_class : (q : ℕ) → parent_number u c p ≡ Some q → (b : Bool) → descends (line_of u q) k ≡ b →
          are_defined (ways u c (lines_of u c ps) k) ≡ true →
          are_defined (if b then way u c p (ancestor u q k) ∷ ways u c (lines_of u c ps) k
          else ways u c (lines_of u c ps) k) ≡ true
      of_class q e true d rest =
          and_both _ _ (some_put (ancestor u q k)
          (f q (first_number (parent_number u c p) q (filter_map (parent_number u c) ps) e) d)) rest
      of_class q e false d rest = rest

      first : (o : Option ℕ) → parent_number u c p ≡ o → are_defined (ways u c (lines_of u c ps) k) ≡ true →
          are_defined (if descends (line_by (line_of u) o) k
          then way u c p (derived u (line_by (line_of u) o) k) ∷ ways u c (lines_of u c ps) k
          else ways u c (lines_of u c ps) k) ≡ true
      first None e rest = rest
      first (Some q) e rest = of_class q e (descends (line_of u q) k) refl rest

  some_way : (ps : List ParentT) → any_descends (lines_of u c ps) k ≡ true →
      (w : Way) × (ws : List Way) × (ways u c (lines_of u c ps) k ≡ w ∷ ws)
  some_way [] h = cc
  some_way (p ∷ ps) h = go (descends (line_by (line_of u) (parent_number u c p)) k) h (some_way ps)
    where
      go : (b : Bool) → (b || any_descends (lines_of u c ps) k) ≡ true →
          (any_descends (lines_of u c ps) k ≡ true →
          (w : Way) × (ws : List Way) × (ways u c (lines_of u c ps) k ≡ w ∷ ws)) →
          (w : Way) × (ws : List Way)
          × ((if b then way u c p (derived u (line_by (line_of u) (parent_number u c p)) k)
          ∷ ways u c (lines_of u c ps) k else ways u c (lines_of u c ps) k) ≡ w ∷ ws)
      go true h r = (_, _, refl)
      go false h r = r h

module _ (u : List ClassT) (order : List ℕ) (is : IsOrder (graph_of u) order)
    (fine : (d : ℕ) (c : ClassT) → slice_get u d ≡ Some c → derivation_faults u (line_of u d) ≡ []) where
  abbrev Has : ℕ → Type 0
  Has d = (k : ℕ) → descends (line_of u d) k ≡ true → (xs : Actuals) × (ancestor u d k ≡ Some xs)

  has : Step u order is Has
  has d c at parents k h = go (d == k) refl (sym (descends_by u order is d k c at) ∙ h)
    where
      unfold_derived : ancestor u d k
          ≡ (if d == k then Some (own_formals c) else common (ways u c (lines_of u c (clauses c)) k))
      unfold_derived = ap (λ l. derived u l k) (unfolded u order is d c at)

      -- of each listed ancestor there is no fault
      no_fault : is_member k (above (line_of u d)) ≡ true →
          ancestor_faults c (name_of u k) (ways u c (lines_of u c (clauses c)) k) ≡ []
      no_fault m =
          let l = unfolded u order is d c at in
          let none = sym (ap (derivation_faults u) l) ∙ fine d c at in
          let i = place_of (above (line_of u d)) k m in
          all_at (λ k. ancestor_faults c (name_of u k) (ways u c (lines_of u c (clauses c)) k) ≡ []) _ i.0 k
          (none_of_each (λ k. ancestor_faults c (name_of u k) (ways u c (lines_of u c (clauses c)) k)) _ none)
          (sym (ap (λ l. slice_get (above l) i.0) l) ∙ i.1)

      found : (ws : List Way) → ways u c (lines_of u c (clauses c)) k ≡ ws → (w : Way) (rest : List Way) →
          ws ≡ w ∷ rest →
          is_member k (above (line_of u d)) ≡ true → (xs : Actuals) × (common ws ≡ Some xs)
      found ws e w rest q m =
          let defined = ways_defined u c k (clauses c) (λ q m d. ap is_some (parents q m k d).1) in
          let r = one_list c (name_of u k) w rest (ap are_defined (sym (e ∙ q)) ∙ defined)
          (ap (ancestor_faults c (name_of u k)) (sym (e ∙ q)) ∙ no_fault m) in
          (r.0, ap common q ∙ r.1)

      go : (b : Bool) → (d == k) ≡ b → (b || any_descends (lines_of u c (clauses c)) k) ≡ true →
          (xs : Actuals) × (ancestor u d k ≡ Some xs)
      go true e any = (
        own_formals c,
        unfold_derived
            ∙ ap (λ b. if b then Some (own_formals c) else common (ways u c (lines_of u c (clauses c)) k)) e,
      )
      go false e any =
          let m = above_is_listed u order is d k c at
          record { other = eqb-false d k e; above = descends_reaches u order is d k h } in
          let w = some_way u c k (clauses c) any in
          let r = found (ways u c (lines_of u c (clauses c)) k) refl w.0 w.1 w.2 m in (
            r.0,
            unfold_derived
                ∙ (ap (λ b. if b then Some (own_formals c) else common (ways u c (lines_of u c (clauses c)) k)) e
                ∙ r.1),
          )

  pub all_defined : Defined u
  all_defined d k h = let c = has_class u d k h in by_parents u order is Has has d c.0 c.1 k h
