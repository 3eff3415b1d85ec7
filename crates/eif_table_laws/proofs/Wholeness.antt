-- Classes that are whole with all their ancestors.
use Rattle.std.proofs.Common.{◌≡◌, ℕ, ◌+◌, ◌<◌, ◌≤◌, Bool, true, false, List, [], ◌∷◌, Some, ◌⊎◌, inl, inr, refl, sym, subst, ◌∙◌, arith}
use Rattle.std.proofs.lemmas.Bool.{eqb-true, eqb-false, eq-eqb, ltb-true, ltb-false, cases_Bool}
use Rattle.std.specs.List.{list_all, enumerate_from}
use Rattle.std.specs.Prelude.{slice_get, ◌&&◌, ◌==◌, nat_lt, if◌then◌else◌}
use Rattle.eif_ancestry.proofs.Members.{or_cases, or_left, or_right, same_bool}
use Rattle.eif_base.specs.declared.fault.Fault.{Fault}
use Rattle.eif_base.specs.declared.root.Root.{Root}
use Rattle.eif_base.specs.Appends.{In}
use Rattle.eif_classes.specs.Descent.{descends, any_descends, above}
use Rattle.eif_feature_rules.specs.FeaturePhases.{own_feature_faults, is_clean, feature_faults, each_given}
use Rattle.eif_lineage_laws.proofs.Descending.{lines_of, descending_parent, parent_descends, descends_by, descends_reaches, reaches_descends, descends_self, no_way_back, listed_is_above, above_is_listed}
use Rattle.eif_lineage_laws.proofs.KernelClasses.{of_each, given_at}
use Rattle.eif_lineage_laws.proofs.Unfolding.{parent_class, class_at, place_at}
use Rattle.eif_lineage_laws.proofs.WholeClasses.{has_order}
use Rattle.eif_rules.specs.FaultForms.{IsNone}
use Rattle.eif_rules.specs.UniverseRules.{UniverseBroken}
use Rattle.eif_system.specs.Graph.{is_member, IsOrder, Reaches}
use Rattle.eif_system.specs.Inheritance.{clauses, parent_numbers, graph_of}
use Rattle.eif_system.specs.Kernel.{kernel_count}
use Rattle.eif_system.specs.Lineage.{line_of}
use Rattle.eif_system.specs.Universe.{universe}
use Rattle.eif_table_laws.specs.WholeClasses.{is_whole, faults_by}
use Rattle.eif_table_laws.proofs.FaultSets.{of_item, is_of_item, numbered_item, item_numbered}
use Rattle.eif_table_laws.proofs.KernelFeatures.{kernel_clean}
use Rattle.eif_tree.specs.Tree.{ClassT}

-- ---- tests of all numbers of a list

pub and_both : (a b : Bool) → a ≡ true → b ≡ true → (a && b) ≡ true
and_both true b h g = g
and_both false b h g = cc

pub and_first : (a b : Bool) → (a && b) ≡ true → a ≡ true
and_first true b h = refl
and_first false b h = cc

pub and_second : (a b : Bool) → (a && b) ≡ true → b ≡ true
and_second true b h = h
and_second false b h = cc

pub all_pass : (test : ℕ → Bool) (ks : List ℕ) → ((k : ℕ) → is_member k ks ≡ true → test k ≡ true) →
    list_all test ks ≡ true
all_pass test [] h = refl
all_pass test (k ∷ ks) h = and_both (test k) (list_all test ks) (h k (or_left _ _ (eq-eqb k k refl)))
    (all_pass test ks (λ j m. h j (or_right (k == j) _ m)))

pub each_passes : (test : ℕ → Bool) (ks : List ℕ) → list_all test ks ≡ true → (k : ℕ) → is_member k ks ≡ true →
    test k ≡ true
each_passes test [] h k m = cc
each_passes test (j ∷ ks) h k m = or_cases _ (j == k) (is_member k ks) m
    (λ t. subst (λ k. test k ≡ true) (eqb-true j k t) (and_first (test j) (list_all test ks) h))
    (λ t. each_passes test ks (and_second (test j) (list_all test ks) h) k t)

module _ (given : List ClassT) (root : Root) (sound : IsNone (UniverseBroken given root)) where
  abbrev u : List ClassT
  u = universe given

  abbrev ordered : (order : List ℕ) × IsOrder (graph_of u) order
  ordered = has_order given root sound

  -- ---- the ancestors of a class and of its parents

  module _ (d : ℕ) (c : ClassT) (at : slice_get u d ≡ Some c) where
    -- a parent, or an ancestor of one
    record IsOfParent (k : ℕ) : Type 0 where
      pub parent : ℕ
      pub member : is_member parent (parent_numbers u c) ≡ true
      pub same_or_above : (parent ≡ k) ⊎ (is_member k (above (line_of u parent)) ≡ true)

    of_parent : (k : ℕ) → is_member k (above (line_of u d)) ≡ true → IsOfParent k
    of_parent k m =
        let a = listed_is_above u ordered.0 ordered.1 d k c at m in
        let down = sym (descends_by u ordered.0 ordered.1 d k c at)
        ∙ reaches_descends u ordered.0 ordered.1 d k c at a.above in
        or_cases _ (d == k) (any_descends (lines_of u c (clauses c)) k) down
        (λ t. absurd (a.other (eqb-true d k t)))
        (λ t.
        let q = descending_parent u c k (clauses c) t in
        let p = parent_class u ordered.0 ordered.1 d q.0 c at q.1 in
        record {
          parent = q.0;
          member = q.1;
          same_or_above = elim (cases_Bool (q.0 == k)) [
            | inl s ↦ inl (eqb-true q.0 k s)
            | inr f ↦ inr (above_is_listed u ordered.0 ordered.1 q.0 k p.0 p.1
                record { other = eqb-false q.0 k f; above = descends_reaches u ordered.0 ordered.1 q.0 k q.2 })
          ];
        })

    -- what a parent is or descends from is above the class
    above_parent : (q k : ℕ) → is_member q (parent_numbers u c) ≡ true → descends (line_of u q) k ≡ true →
        is_member k (above (line_of u d)) ≡ true
    above_parent q k m down =
        let there = descends_reaches u ordered.0 ordered.1 q k down in
        above_is_listed u ordered.0 ordered.1 d k c at record {
          other = λ e. no_way_back u ordered.0 ordered.1 d q c at m (subst (λ k. Reaches (graph_of u) q k) (sym e) there);
          above = descends_reaches u ordered.0 ordered.1 d k
              (descends_by u ordered.0 ordered.1 d k c at
              ∙ or_right (d == k) _ (parent_descends u c k q (clauses c) m down));
        }

    parent_whole : list_all (is_clean u) (above (line_of u d)) ≡ true → (q : ℕ) →
        is_member q (parent_numbers u c) ≡ true → is_whole u q ≡ true
    parent_whole h q m =
        let p = parent_class u ordered.0 ordered.1 d q c at m in
        and_both (is_clean u q) (list_all (is_clean u) (above (line_of u q)))
        (each_passes (is_clean u) (above (line_of u d)) h q
        (above_parent q q m (descends_self u ordered.0 ordered.1 q p.0 p.1)))
        (all_pass (is_clean u) (above (line_of u q)) (λ k n.
        let a = listed_is_above u ordered.0 ordered.1 q k p.0 p.1 n in
        each_passes (is_clean u) (above (line_of u d)) h k
        (above_parent q k m (reaches_descends u ordered.0 ordered.1 q k p.0 p.1 a.above))))

    ancestor_clean : list_all (is_whole u) (parent_numbers u c) ≡ true → (k : ℕ) →
        is_member k (above (line_of u d)) ≡ true → is_clean u k ≡ true
    ancestor_clean h k m =
        let o = of_parent k m in
        let whole = each_passes (is_whole u) (parent_numbers u c) h o.parent o.member in
        let clean = and_first (is_clean u o.parent) (list_all (is_clean u) (above (line_of u o.parent))) whole in
        let rest = and_second (is_clean u o.parent) (list_all (is_clean u) (above (line_of u o.parent))) whole in
        elim o.same_or_above [
          | inl e ↦ subst (λ k. is_clean u k ≡ true) e clean
          | inr n ↦ each_passes (is_clean u) (above (line_of u o.parent)) rest k n
        ]

    pub by_parents_whole :
        list_all (is_clean u) (above (line_of u d)) ≡ list_all (is_whole u) (parent_numbers u c)
    by_parents_whole = same_bool _ _
        (λ h. all_pass (is_whole u) (parent_numbers u c) (λ q m. parent_whole h q m))
        (λ h. all_pass (is_clean u) (above (line_of u d)) (λ k m. ancestor_clean h k m))

  -- ---- the faults of all classes

  kernel_judged : (d : ℕ) (f : Fault) → d < kernel_count → In (feature_faults u (line_of u d)) f → ⊥
  kernel_judged d f h has = go (list_all (is_clean u) (above (line_of u d))) has
    where
      go : (b : Bool) → In (if b then own_feature_faults u (line_of u d) else []) f → ⊥
      go true has = let none : In [] f = subst (λ xs. In xs f) (kernel_clean given root sound d h) has in cc
      go false has = cc

  -- a class that is not of the kernel is given
  record IsGiven (d : ℕ) (c : ClassT) : Type 0 where
    pub place : ℕ
    pub number : d ≡ kernel_count + place
    pub at : slice_get given place ≡ Some c

  later_class : (d : ℕ) (c : ClassT) → slice_get u d ≡ Some c → kernel_count ≤ d → IsGiven d c
  later_class = of_each given (λ d c. kernel_count ≤ d → IsGiven d c)
      record {
        any = λ h. absurd (omega arith);
        integer = λ h. absurd (omega arith);
        boolean = λ h. absurd (omega arith);
        character = λ h. absurd (omega arith);
        string = λ h. absurd (omega arith);
        array = λ h. absurd (omega arith);
      }
      (λ i c at h. record { place = i; number = refl; at = at })

  abbrev judged_given : ℕ × ClassT → List Fault
  judged_given x = feature_faults u (line_of u (kernel_count + x.0))

  pub given_fault : (order : List ℕ) → IsOrder (graph_of u) order → (f : Fault) → In (faults_by u order) f →
      In (each_given feature_faults given) f
  given_fault order is f h =
      let o = of_item (λ d. feature_faults u (line_of u d)) order f h in
      let c = class_at u order is o.place o.item o.at in
      elim (cases_Bool (nat_lt o.item kernel_count)) [
        | inl t ↦ absurd (kernel_judged o.item f (ltb-true o.item kernel_count t) o.fault)
        | inr t ↦ (
            let few : kernel_count ≤ o.item = omega (arith, ltb-false o.item kernel_count t) in
            let i = later_class o.item c.0 c.1 few in
            is_of_item judged_given (enumerate_from 0 given) f i.place (0 + i.place, c.0)
            (numbered_item 0 given i.place c.0 i.at)
            (subst (λ d. In (feature_faults u (line_of u d)) f) (i.number ∙ omega arith) o.fault))
      ]

  pub fault_of_given : (order : List ℕ) → IsOrder (graph_of u) order → (f : Fault) →
      In (each_given feature_faults given) f → In (faults_by u order) f
  fault_of_given order is f h =
      let o = of_item judged_given (enumerate_from 0 given) f h in
      let i = item_numbered 0 given o.place o.item o.at in
      let at = given_at given i.place o.item.1 i.at in
      let p = place_at u order is (kernel_count + i.place) o.item.1 at in
      is_of_item (λ d. feature_faults u (line_of u d)) order f p.0 (kernel_count + i.place) p.1
      (subst (λ k. In (feature_faults u (line_of u (kernel_count + k))) f) (i.number ∙ omega arith) o.fault)
