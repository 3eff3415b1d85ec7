-- The classes of a system: their order, their formals, their lines, and what they give their ancestors.
use Rattle.std.proofs.Common.{◌≡◌, ◌≢◌, ℕ, ◌<◌, ◌≤◌, ◌^◌, Bool, true, false, inl, List, length, Some, refl, sym, ap, subst, ◌∙◌, arith}
use Rattle.std.specs.Prelude.{◌==◌, if◌then◌else◌, nat_lt, slice_get}
use Rattle.std.proofs.lemmas.Bool.{eq-eqb, ne_eqb}
use Rattle.std.proofs.lemmas.Bool.Decides.{nat_tests}
use Rattle.std.proofs.lemmas.List.{length-map}
use Rattle.std.proofs.lemmas.Option.{slice_get_within}
use Rattle.eif_base.specs.declared.code.Code.TheVariants as code
use Rattle.eif_base.specs.declared.limits.TheConstants.{MOST_FORMALS}
use Rattle.eif_classes.specs.Ancestry.{ancestor, common, derived, ways}
use Rattle.eif_classes.specs.Descent.{descends, above}
use Rattle.eif_classes.specs.Resolution.{own_formals}
use Rattle.eif_derivations.specs.ParentActuals.{lines_over}
use Rattle.eif_lineage_laws.proofs.Descending.{above_before, above_is_listed, descends_reaches, descends_self, listed_is_above, reaches_descends}
use Rattle.eif_lineage_laws.proofs.KernelClasses.{of_each}
use Rattle.eif_lineage_laws.proofs.NoFaults.{none_in, none_right, none_where}
use Rattle.eif_lineage_laws.proofs.Numbers.{parent_within}
use Rattle.eif_lineage_laws.proofs.Unfolding.{class_at, class_within, place_at, unfolded}
use Rattle.eif_lineage_laws.proofs.WholeClasses.{fine, has_order}
use Rattle.eif_rows.specs.Systems.{IsSystem}
use Rattle.eif_rows.proofs.NameSets.{is_member-from_place}
use Rattle.eif_rules.specs.FaultForms.{fault_of}
use Rattle.eif_rules.specs.UniverseRules.{many_formals, text_faults}
use Rattle.eif_system.specs.Graph.{is_member, IsOrder}
use Rattle.eif_system.specs.Inheritance.{graph_of, parent_number}
use Rattle.eif_system.specs.Lineage.{line, line_of}
use Rattle.eif_system.specs.Universe.{universe}
use Rattle.eif_tree.specs.Tree.{ParentT, ClassT}
use Rattle.eif_tree.specs.View.{class_view, formal_view}
use Rattle.eif_tree.specs.declared.class.ClassTree.{ClassTree}

module _ (u : List ClassT) (s : IsSystem u) where
  -- the classes stand in an order of inheritance
  pub order_in : (order : List ℕ) × IsOrder (graph_of u) order
  order_in = subst (λ u. (order : List ℕ) × IsOrder (graph_of u) order) (sym s.is) (has_order s.given s.root s.sound)

  abbrev HasFew : ℕ → ClassT → Type 0
  HasFew d c = length c.formals ≤ MOST_FORMALS

  -- no class has more formals than it may have
  pub few_formals : (d : ℕ) (c : ClassT) → slice_get u d ≡ Some c → length c.formals < 2 ^ 32
  few_formals d c at =
      let few : HasFew d c =
      subst (λ v. slice_get v d ≡ Some c → HasFew d c) (sym s.is)
      (of_each s.given HasFew
      record {
        any = omega arith;
        integer = omega arith;
        boolean = omega arith;
        character = omega arith;
        string = omega arith;
        array = omega arith;
      } given_few d c) at in
      omega arith
    where
      few_from : (n : ℕ) → nat_lt MOST_FORMALS n ≡ false → n ≤ MOST_FORMALS
      few_from n e = grind (arith, nat_tests)

      given_few : (i : ℕ) (c : ClassT) → slice_get s.given i ≡ Some c → HasFew i c
      given_few i c at =
          let v = universe s.given in
          let none = none_in (text_faults v c) (λ f m. (fine s.given s.root s.sound i c at).own f (inl m)) in
          few_from (length c.formals)
          (none_where (nat_lt MOST_FORMALS (length c.formals)) (fault_of c code.Xlim 3)
          (none_right _ (many_formals c) none))

  pub few_in_tree : (d : ℕ) (t : ClassTree) → slice_get u d ≡ Some (class_view t) → length t.formals.items < 2 ^ 32
  few_in_tree d t at =
      let few = few_formals d (class_view t) at in
      let long = length-map t.formals.items formal_view in
      omega arith

  -- the class of a clause is one of the universe
  pub parent_class : (c : ClassT) (p : ParentT) (k : ℕ) → parent_number u c p ≡ Some k
      → (q : ClassT) × (slice_get u k ≡ Some q)
  parent_class c p k e = class_within u k (parent_within u c p k e)

  module _ (d : ℕ) (c : ClassT) (at : slice_get u d ≡ Some c) where
    -- its line stands over those of its clauses
    pub line_is : line_of u d ≡ line d c (lines_over u c)
    line_is = let o = order_in in unfolded u o.0 o.1 d c at

    -- what a class gives by its own clauses
    given_over : (k : ℕ) → ancestor u d k
        ≡ (if d == k then Some (own_formals c) else common (ways u c (lines_over u c) k))
    given_over k = ap (λ l. derived u l k) line_is

    -- itself its formals
    pub gives_itself : ancestor u d d ≡ Some (own_formals c)
    gives_itself =
        given_over d
        ∙ ap (λ b. if b then Some (own_formals c) else common (ways u c (lines_over u c) d)) (eq-eqb d d refl)

    -- another class what all ways to it give together
    pub gives_by_ways : (k : ℕ) → d ≢ k → ancestor u d k ≡ common (ways u c (lines_over u c) k)
    gives_by_ways k other =
        given_over k
        ∙ ap (λ b. if b then Some (own_formals c) else common (ways u c (lines_over u c) k)) (ne_eqb d k other)

    -- ---- whom it descends from

    pub down_to_itself : descends (line_of u d) d ≡ true
    down_to_itself = let o = order_in in descends_self u o.0 o.1 d c at

    pub down_to_above : (k : ℕ) → is_member k (above (line_of u d)) ≡ true → descends (line_of u d) k ≡ true
    down_to_above k m =
        let o = order_in in reaches_descends u o.0 o.1 d k c at (listed_is_above u o.0 o.1 d k c at m).above

    -- where these are the classes above it, each is a class of the universe, and none is the class
    module _ (ks : List ℕ) (are : ks ≡ above (line_of u d)) (i k : ℕ) (here : slice_get ks i ≡ Some k) where
      listed : is_member k (above (line_of u d)) ≡ true
      listed = is_member-from_place (above (line_of u d)) i k (ap (λ ks. slice_get ks i) (sym are) ∙ here)

      pub above_is_other : d ≢ k
      above_is_other = let o = order_in in (listed_is_above u o.0 o.1 d k c at listed).other

      pub above_within : k < length u
      above_within =
          let o = order_in in
          let place = place_at u o.0 o.1 d c at in
          let before = above_before u o.0 o.1 place.0 d k place.1 listed in
          let class = class_at u o.0 o.1 before.0 k before.2 in
          slice_get_within u k class.0 class.1

    -- not from one that is not itself and not above
    pub not_down : (k : ℕ) → d ≢ k → is_member k (above (line_of u d)) ≡ false → descends (line_of u d) k ≡ false
    not_down k other none = go (descends (line_of u d) k) refl
      where
        go : (b : Bool) → descends (line_of u d) k ≡ b → descends (line_of u d) k ≡ false
        go false e = e
        go true e =
            let o = order_in in
            let listed = above_is_listed u o.0 o.1 d k c at
            record { other = other; above = descends_reaches u o.0 o.1 d k e } in
            let z : true ≡ false = sym listed ∙ none in
            absurd (cc)
