-- Descent by lines and by the graph of parents.
use Rattle.std.proofs.Common.{◌≡◌, ◌≢◌, ℕ, zero, suc, ◌<◌, Bool, true, false, ◌⊎◌, inl, inr, List, [], ◌∷◌, ◌++◌, length, Option, Some, None, refl, sym, ap, subst, ◌∙◌, ⊎_elim, arith}
use Rattle.std.proofs.lemmas.Bool.{eq-eqb, eqb-true, eqb-false, cases_Bool}
use Rattle.std.specs.List.{filter_map, cons_option}
use Rattle.std.specs.List.Sorted.{IsStrictlyIncreasing}
use Rattle.std.specs.Prelude.{slice_get, ◌||◌, ◌==◌}
use Rattle.eif_ancestry.proofs.ByCount.{ancestor_first}
use Rattle.eif_ancestry.proofs.Climbing.{reaches_on, reaches_parent}
use Rattle.eif_ancestry.proofs.Members.{or_cases, or_left, or_right, member_at, place_of, one_place}
use Rattle.eif_ancestry.proofs.Rising.{rising_distinct}
use Rattle.eif_ancestry.specs.Ancestries.{IsRisingListOf}
use Rattle.eif_classes.specs.Descent.{class_of, descends, any_descends, above, all_above}
use Rattle.eif_system.specs.Graph.{is_member, Climbs, Reaches, IsProperAncestor, IsOrder}
use Rattle.eif_system.specs.Inheritance.{clauses, parent_number, parent_numbers, graph_of}
use Rattle.eif_system.specs.Lineage.{cut, Ups, up, line_by, ups_by, line_at, lineage, line_of}
use Rattle.eif_tree.specs.Tree.{ParentT, ClassT}
use Rattle.eif_lineage_laws.proofs.RisingNumbers.{member_in_order, in_order_increasing}
use Rattle.eif_lineage_laws.proofs.Unfolding.{first_number, later_number, parents_at, class_at, place_at, parent_class, by_parents, Step, unfolded}

pub number_is : (o : Option ℕ) (k : ℕ) (ks : List ℕ) → is_member k (cons_option o ks) ≡ true →
    (o ≡ Some k) ⊎ (is_member k ks ≡ true)
number_is None k ks m = inr m
number_is (Some j) k ks m = or_cases _ (j == k) (is_member k ks) m (λ t. inl (ap Some (eqb-true j k t))) (λ n. inr n)

member_append : (k : ℕ) (xs ys : List ℕ) → is_member k (xs ++ ys) ≡ (is_member k xs || is_member k ys)
member_append k [] ys = refl
member_append k (x ∷ xs) ys = ap (λ b. (x == k) || b) (member_append k xs ys) ∙ grouped (x == k)
  where
    grouped : (a : Bool) → (a || (is_member k xs || is_member k ys)) ≡ ((a || is_member k xs) || is_member k ys)
    grouped true = refl
    grouped false = refl

module _ (u : List ClassT) where
  -- the lines of the clauses of the class c
  abbrev pub lines_of : ClassT → List ParentT → Ups
  lines_of c ps = ups_by (λ p. line_by (line_of u) (parent_number u c p)) ps

  -- ---- where there is no class

  pub no_line : (d : ℕ) → slice_get u d ≡ None → line_of u d ≡ cut
  unfolding line_of
  no_line d e = go (length u)
    where
      go : (n : ℕ) → lineage n u d ≡ cut
      go zero = refl
      go (suc n) = ap (line_at u (lineage n u) d) e

  pub class_or_none : (d : ℕ) → ((c : ClassT) × (slice_get u d ≡ Some c)) ⊎ (slice_get u d ≡ None)
  class_or_none d = go (slice_get u d) refl
    where
      go : (o : Option ClassT) → slice_get u d ≡ o → ((c : ClassT) × (slice_get u d ≡ Some c)) ⊎ (slice_get u d ≡ None)
      go None e = inr e
      go (Some c) e = inl (c, e)

  -- what descends from a class is a class
  pub has_class : (d k : ℕ) → descends (line_of u d) k ≡ true → (c : ClassT) × (slice_get u d ≡ Some c)
  has_class d k h = ⊎_elim (λ (c : (c : ClassT) × (slice_get u d ≡ Some c)). c)
      (λ (e : slice_get u d ≡ None). let z : false ≡ true = sym (ap (λ l. descends l k) (no_line d e)) ∙ h in cc)
      (class_or_none d)

  -- ---- descent by clauses

  -- some clause names a class that is k or descends from it
  pub descending_parent : (c : ClassT) (k : ℕ) (ps : List ParentT) → any_descends (lines_of c ps) k ≡ true →
      (q : ℕ) × (is_member q (filter_map (parent_number u c) ps) ≡ true) × (descends (line_of u q) k ≡ true)
  descending_parent c k [] h = cc
  descending_parent c k (p ∷ ps) h =
      or_cases _ (descends (line_by (line_of u) (parent_number u c p)) k) (any_descends (lines_of c ps) k) h
      (λ t. first (parent_number u c p) refl t)
      (λ t. let q = descending_parent c k ps t in (q.0, later_number (parent_number u c p) q.0 _ q.1, q.2))
    where
      first : (o : Option ℕ) → parent_number u c p ≡ o → descends (line_by (line_of u) o) k ≡ true →
          (q : ℕ) × (is_member q (filter_map (parent_number u c) (p ∷ ps)) ≡ true) × (descends (line_of u q) k ≡ true)
      first None e t = cc
      first (Some q) e t = (q, first_number (parent_number u c p) q _ e, t)

  pub parent_descends : (c : ClassT) (k q : ℕ) (ps : List ParentT) →
      is_member q (filter_map (parent_number u c) ps) ≡ true → descends (line_of u q) k ≡ true →
      any_descends (lines_of c ps) k ≡ true
  parent_descends c k q [] m h = cc
  parent_descends c k q (p ∷ ps) m h = ⊎_elim
      (λ (e : parent_number u c p ≡ Some q).
      or_left _ _ (ap (λ o. descends (line_by (line_of u) o) k) e ∙ h))
      (λ (n : is_member q (filter_map (parent_number u c) ps) ≡ true).
      or_right (descends (line_by (line_of u) (parent_number u c p)) k) _ (parent_descends c k q ps n h))
      (number_is (parent_number u c p) q _ m)

  -- ---- ancestors by clauses

  -- the class q is k, or its line lists k
  abbrev IsOrLists : ℕ → ℕ → Type 0
  IsOrLists q k = (q ≡ k) ⊎ (is_member k (above (line_of u q)) ≡ true)

  -- of clauses that name classes
  module _ (c : ClassT) (k : ℕ) where
    abbrev HaveNumbers : List ParentT → Type 0
    HaveNumbers ps =
        (q : ℕ) → is_member q (filter_map (parent_number u c) ps) ≡ true → class_of (line_of u q) ≡ Some q

    later_have : (p : ParentT) (ps : List ParentT) → HaveNumbers (p ∷ ps) → HaveNumbers ps
    later_have p ps have q m = have q (later_number (parent_number u c p) q (filter_map (parent_number u c) ps) m)

    abbrev Found : List ParentT → Type 0
    Found ps = (q : ℕ) × (is_member q (filter_map (parent_number u c) ps) ≡ true) × IsOrLists q k

    -- what clauses list is the class of one, or listed by its line
    listed_parent : (ps : List ParentT) → HaveNumbers ps → is_member k (all_above (lines_of c ps)) ≡ true → Found ps
    listed_parent [] have h = cc
    listed_parent (p ∷ ps) have h =
        first (parent_number u c p) refl h (λ t. listed_parent ps (later_have p ps have) t)
      where
        later : Found ps → Found (p ∷ ps)
        later f = (f.0, later_number (parent_number u c p) f.0 (filter_map (parent_number u c) ps) f.1, f.2)

        first : (o : Option ℕ) → parent_number u c p ≡ o →
            is_member k (all_above (up p (line_by (line_of u) o) (lines_of c ps))) ≡ true →
            (is_member k (all_above (lines_of c ps)) ≡ true → Found ps) → Found (p ∷ ps)
        first None e t rest = later (rest t)
        first (Some q) e t rest =
            let m = first_number (parent_number u c p) q (filter_map (parent_number u c) ps) e in
            let all : is_member k (q ∷ (above (line_of u q) ++ all_above (lines_of c ps))) ≡ true =
            subst (λ o. is_member k (cons_option o (above (line_of u q) ++ all_above (lines_of c ps))) ≡ true)
            (have q m) t in
            or_cases _ (q == k) (is_member k (above (line_of u q) ++ all_above (lines_of c ps))) all
            (λ t. (q, m, inl (eqb-true q k t)))
            (λ t. or_cases _ (is_member k (above (line_of u q))) (is_member k (all_above (lines_of c ps)))
            (sym (member_append k (above (line_of u q)) (all_above (lines_of c ps))) ∙ t)
            (λ t. (q, m, inr t))
            (λ t. later (rest t)))

    parent_listed : (q : ℕ) (ps : List ParentT) → HaveNumbers ps →
        is_member q (filter_map (parent_number u c) ps) ≡ true → IsOrLists q k →
        is_member k (all_above (lines_of c ps)) ≡ true
    parent_listed q [] have m h = cc
    parent_listed q (p ∷ ps) have m h = first (parent_number u c p) refl
        (number_is (parent_number u c p) q (filter_map (parent_number u c) ps) m)
        (λ m. parent_listed q ps (later_have p ps have) m h)
      where
        first : (o : Option ℕ) → parent_number u c p ≡ o →
            (parent_number u c p ≡ Some q) ⊎ (is_member q (filter_map (parent_number u c) ps) ≡ true) →
            (is_member q (filter_map (parent_number u c) ps) ≡ true →
            is_member k (all_above (lines_of c ps)) ≡ true) →
            is_member k (all_above (up p (line_by (line_of u) o) (lines_of c ps))) ≡ true
        first None e w rest = rest (⊎_elim (λ (f : parent_number u c p ≡ Some q). let z = sym e ∙ f in cc)
            (λ (n : is_member q (filter_map (parent_number u c) ps) ≡ true). n) w)
        first (Some j) e w rest =
            let here = have j (first_number (parent_number u c p) j (filter_map (parent_number u c) ps) e) in
            subst (λ o. is_member k (cons_option o (above (line_of u j) ++ all_above (lines_of c ps))) ≡ true)
            (sym here)
            (⊎_elim
            (λ (f : parent_number u c p ≡ Some q).
            let z : Some j ≡ Some q = sym e ∙ f in
            let same : q ≡ j = cc in
            by_head j (subst (λ q. IsOrLists q k) same h))
            (λ (n : is_member q (filter_map (parent_number u c) ps) ≡ true).
            or_right (j == k) _ (member_append k (above (line_of u j)) (all_above (lines_of c ps))
            ∙ or_right (is_member k (above (line_of u j))) _ (rest n)))
            w)
          where
            by_head : (j : ℕ) → IsOrLists j k →
                is_member k (j ∷ (above (line_of u j) ++ all_above (lines_of c ps))) ≡ true
            by_head j h = ⊎_elim
                (λ (e : j ≡ k). or_left (j == k) _ (eq-eqb j k e))
                (λ (m : is_member k (above (line_of u j)) ≡ true). or_right (j == k) _
                (member_append k (above (line_of u j)) (all_above (lines_of c ps))
                ∙ or_left (is_member k (above (line_of u j))) _ m))
                h

module _ (u : List ClassT) (order : List ℕ) (is : IsOrder (graph_of u) order) where
  pub descends_by : (d k : ℕ) (c : ClassT) → slice_get u d ≡ Some c →
      descends (line_of u d) k ≡ ((d == k) || any_descends (lines_of u c (clauses c)) k)
  descends_by d k c at = ap (λ l. descends l k) (unfolded u order is d c at)

  -- ---- descent is what the graph leads to

  abbrev Leads : ℕ → ℕ → Type 0
  Leads k d = descends (line_of u d) k ≡ true → Reaches (graph_of u) d k

  pub descends_reaches : (d k : ℕ) → descends (line_of u d) k ≡ true → Reaches (graph_of u) d k
  descends_reaches d k h =
      let c = has_class u d k h in by_parents u order is (Leads k) leads d c.0 c.1 h
    where
      leads : Step u order is (Leads k)
      leads d c at parents h =
          or_cases _ (d == k) (any_descends (lines_of u c (clauses c)) k) (sym (descends_by d k c at) ∙ h)
          (λ t. ([], eqb-true d k t))
          (λ t.
          let q = descending_parent u c k (clauses c) t in
          let r = parents q.0 q.1 q.2 in
          (q.0 ∷ r.0, (ap (is_member q.0) (parents_at u d c at) ∙ q.1, r.1)))

  pub reaches_descends : (d k : ℕ) (c : ClassT) → slice_get u d ≡ Some c → Reaches (graph_of u) d k →
      descends (line_of u d) k ≡ true
  reaches_descends d k c at r = go r.0 d c at r.1
    where
      go : (steps : List ℕ) (d : ℕ) (c : ClassT) → slice_get u d ≡ Some c → Climbs (graph_of u) d steps k →
          descends (line_of u d) k ≡ true
      go [] d c at e = descends_by d k c at ∙ or_left (d == k) _ (eq-eqb d k e)
      go (q ∷ steps) d c at h =
          let m = sym (ap (is_member q) (parents_at u d c at)) ∙ h.0 in
          let p = parent_class u order is d q c at m in
          descends_by d k c at
          ∙ or_right (d == k) _ (parent_descends u c k q (clauses c) m (go steps q p.0 p.1 h.1))

  pub descends_self : (d : ℕ) (c : ClassT) → slice_get u d ≡ Some c → descends (line_of u d) d ≡ true
  descends_self d c at = reaches_descends d d c at ([], refl)

  pub descends_further : (d k j : ℕ) → descends (line_of u d) k ≡ true → descends (line_of u k) j ≡ true →
      descends (line_of u d) j ≡ true
  descends_further d k j h g =
      let c = has_class u d k h in
      reaches_descends d j c.0 c.1
      (reaches_on (graph_of u) d k j (descends_reaches d k h) (descends_reaches k j g))

  -- ---- no class is above itself

  -- from a parent no path leads back
  pub no_way_back : (d q : ℕ) (c : ClassT) → slice_get u d ≡ Some c → is_member q (parent_numbers u c) ≡ true →
      Reaches (graph_of u) q d → ⊥
  no_way_back d q c at m r =
      let i = place_at u order is d c at in
      let j = is.after i.0 d q i.1 (ap (is_member q) (parents_at u d c at) ∙ m) in
      let below = j.1 in
      elim (cases_Bool (q == d)) [
        | inl t ↦ (
            let e = eqb-true q d t in
            let same = is.classes.once j.0 i.0 d (subst (λ q. slice_get order j.0 ≡ Some q) e j.2) i.1 in
            omega arith)
        | inr f ↦ (
            let a = ancestor_first (graph_of u) order j.0 q d is j.2 record { other = eqb-false q d f; above = r } in
            let earlier = a.1 in
            let same = is.classes.once a.0 i.0 d a.2 i.1 in
            omega arith)
      ]

  -- no two classes descend from one another
  pub descend_apart : (d k : ℕ) → d ≢ k → descends (line_of u d) k ≡ true → descends (line_of u k) d ≡ true → ⊥
  descend_apart d k ne h g =
      let c = has_class u d k h in
      let r = descends_reaches d k h in
      go c.0 c.1 r.0 r.1
    where
      go : (c : ClassT) → slice_get u d ≡ Some c → (steps : List ℕ) → Climbs (graph_of u) d steps k → ⊥
      go c at [] e = ne e
      go c at (q ∷ steps) r =
          no_way_back d q c at (sym (ap (is_member q) (parents_at u d c at)) ∙ r.0)
          (reaches_on (graph_of u) q k d (steps, r.1) (descends_reaches k d g))

  -- ---- the ancestors that a line lists

  have_numbers : (d : ℕ) (c : ClassT) → slice_get u d ≡ Some c → (q : ℕ) →
      is_member q (parent_numbers u c) ≡ true → class_of (line_of u q) ≡ Some q
  have_numbers d c at q m =
      let p = parent_class u order is d q c at m in ap class_of (unfolded u order is q p.0 p.1)

  listed_by : (d k : ℕ) (c : ClassT) → slice_get u d ≡ Some c →
      is_member k (above (line_of u d)) ≡ is_member k (all_above (lines_of u c (clauses c)))
  listed_by d k c at =
      ap (λ l. is_member k (above l)) (unfolded u order is d c at)
      ∙ member_in_order (all_above (lines_of u c (clauses c))) k

  abbrev IsAbove : ℕ → ℕ → Type 0
  IsAbove k d = is_member k (above (line_of u d)) ≡ true → IsProperAncestor (graph_of u) d k

  pub listed_is_above : (d k : ℕ) (c : ClassT) → slice_get u d ≡ Some c → is_member k (above (line_of u d)) ≡ true →
      IsProperAncestor (graph_of u) d k
  listed_is_above d k c at h = by_parents u order is (IsAbove k) are d c at h
    where
      are : Step u order is (IsAbove k)
      are d c at parents h =
          let q = listed_parent u c k (clauses c) (have_numbers d c at) (sym (listed_by d k c at) ∙ h) in
          let r : Reaches (graph_of u) q.0 k =
          ⊎_elim (λ (e : q.0 ≡ k). ([], e))
          (λ (m : is_member k (above (line_of u q.0)) ≡ true). (parents q.0 q.1 m).above) q.2 in
          record {
            other = λ e. no_way_back d q.0 c at q.1 (subst (λ k. Reaches (graph_of u) q.0 k) (sym e) r);
            above = reaches_on (graph_of u) d q.0 k
                (reaches_parent (graph_of u) d q.0 (ap (is_member q.0) (parents_at u d c at) ∙ q.1)) r;
          }

  pub above_is_listed : (d k : ℕ) (c : ClassT) → slice_get u d ≡ Some c → IsProperAncestor (graph_of u) d k →
      is_member k (above (line_of u d)) ≡ true
  above_is_listed d k c at a = go a.above.0 d c at a.other a.above.1
    where
      go : (steps : List ℕ) (d : ℕ) (c : ClassT) → slice_get u d ≡ Some c → d ≢ k → Climbs (graph_of u) d steps k →
          is_member k (above (line_of u d)) ≡ true
      go [] d c at ne e = absurd (ne e)
      go (q ∷ steps) d c at ne h =
          let m = sym (ap (is_member q) (parents_at u d c at)) ∙ h.0 in
          let p = parent_class u order is d q c at m in
          listed_by d k c at
          ∙ parent_listed u c k q (clauses c) (have_numbers d c at) m
          (elim (cases_Bool (q == k)) [
            | inl t ↦ inl (eqb-true q k t)
            | inr f ↦ inr (go steps q p.0 p.1 (eqb-false q k f) h.1)
          ])

  pub above_rises : (d : ℕ) (c : ClassT) → slice_get u d ≡ Some c → IsStrictlyIncreasing (above (line_of u d))
  above_rises d c at =
      subst (λ l. IsStrictlyIncreasing (above l)) (sym (unfolded u order is d c at))
      (in_order_increasing (all_above (lines_of u c (clauses c))))

  pub above_listed : (d : ℕ) (c : ClassT) → slice_get u d ≡ Some c →
      IsRisingListOf (IsProperAncestor (graph_of u) d) (above (line_of u d))
  above_listed d c at =
      let rising = above_rises d c at in
      record {
        rising = rising;
        list = record {
          once = one_place (above (line_of u d)) (rising_distinct (above (line_of u d)) rising);
          only = λ i k e. listed_is_above d k c at (member_at (above (line_of u d)) i k e);
          each = λ k a. place_of (above (line_of u d)) k (above_is_listed d k c at a);
        };
      }

  pub above_before : (i d k : ℕ) → slice_get order i ≡ Some d → is_member k (above (line_of u d)) ≡ true →
      (j : ℕ) × (j < i) × (slice_get order j ≡ Some k)
  above_before i d k place m =
      let c = class_at u order is i d place in
      ancestor_first (graph_of u) order i d k is place (listed_is_above d k c.0 c.1 m)
