-- The rows of the classes of a system, filled one after the other in an order of inheritance.
use Rattle.std.proofs.Common.{◌≡◌, ◌≢◌, ℕ, zero, suc, ◌+◌, ◌<◌, ◌⊎◌, true, false, List, [], ◌∷◌, ◌++◌, length, set, take, Option, Some, inl, inr, refl, sym, ap, subst, ◌∙◌, arith}
use Rattle.std.specs.Prelude.{◌==◌, flat_map, slice_get}
use Rattle.std.proofs.lemmas.Bool.{cases_Bool, eqb-false, eqb-true}
use Rattle.std.proofs.lemmas.List.{flat_map_more}
use Rattle.std.proofs.lemmas.Option.{same_Some, slice_get_within}
use Rattle.eif_ancestry.proofs.Members.{or_cases, or_left, or_right}
use Rattle.eif_base.specs.declared.fault.Fault.{Fault}
use Rattle.eif_classes.specs.Types.{Actuals}
use Rattle.eif_derivations.specs.DerivationRows.{IsDerivationRow}
use Rattle.eif_derivations.specs.Filled.{AreDerivations, AreDerived, HaveDerivations}
use Rattle.eif_derivations.specs.ListNumbers.{Keeps, lists_of}
use Rattle.eif_derivations.specs.declared.derivation.DerivationRow.{DerivationRow}
use Rattle.eif_derivations.specs.declared.fill.Derivations.{Derivations}
use Rattle.eif_derivations.proofs.DerivationLists.{rows_still}
use Rattle.eif_derivations.proofs.Turns.{take_place}
use Rattle.eif_feature_rules.specs.DerivationRules.{derivation_faults}
use Rattle.eif_lineage_laws.proofs.Unfolding.{class_at, graph_length, parents_at}
use Rattle.eif_rows.proofs.NameSets.{is_member-from_place}
use Rattle.eif_system.specs.Graph.{is_member, IsOrder}
use Rattle.eif_system.specs.Inheritance.{graph_of, parent_numbers}
use Rattle.eif_system.specs.Lineage.{line_of}
use Rattle.eif_tree.specs.Tree.{ClassT}

-- ---- a list after a write

module _ {A : Type 0} where
  get-set_same : (xs : List A) (i : ℕ) (x : A) → i < length xs → slice_get (set xs i x) i ≡ Some x
  get-set_same [] i x h = absurd (omega arith)
  get-set_same (y ∷ xs) zero x h = refl
  get-set_same (y ∷ xs) (suc i) x h = get-set_same xs i x (omega arith)

  get-set_other : (xs : List A) (i k : ℕ) (x : A) → i ≢ k → slice_get (set xs i x) k ≡ slice_get xs k
  get-set_other [] i k x n = refl
  get-set_other (y ∷ xs) zero zero x n = absurd (n refl)
  get-set_other (y ∷ xs) zero (suc k) x n = refl
  get-set_other (y ∷ xs) (suc i) zero x n = refl
  get-set_other (y ∷ xs) (suc i) (suc k) x n = get-set_other xs i k x (λ e. n (ap suc e))

-- a member of a list with one more at its end
last_or_before : (k d : ℕ) (xs : List ℕ) → is_member k (xs ++ d ∷ []) ≡ true → d ≢ k → is_member k xs ≡ true
last_or_before k d [] m other = or_cases _ (d == k) false m (λ t. absurd (other (eqb-true d k t))) (λ f. f)
last_or_before k d (x ∷ xs) m other =
    or_cases _ (x == k) (is_member k (xs ++ d ∷ [])) m (λ t. or_left (x == k) (is_member k xs) t)
    (λ t. or_right (x == k) (is_member k xs) (last_or_before k d xs t other))

module _ (u : List ClassT) (order : List ℕ) (is : IsOrder (graph_of u) order) where
  -- what stands in the order is a class
  pub order_within : (i d : ℕ) → slice_get order i ≡ Some d → d < length u
  order_within i d at = let c = class_at u order is i d at in slice_get_within u d c.0 c.1

  -- the parents of a class have their rows where all before it have theirs
  pub parents_have : (lists : List Actuals) (rows : List (Option DerivationRow)) (i d : ℕ)
      → slice_get order i ≡ Some d → HaveDerivations u lists rows (take i order) → (c : ClassT)
      → slice_get u d ≡ Some c → HaveDerivations u lists rows (parent_numbers u c)
  parents_have lists rows i d place have c at = λ k m.
      let j = is.after i d k place (ap (is_member k) (parents_at u d c at) ∙ m) in
      have k (is_member-from_place (take i order) j.0 k (taken order i j.0 k j.1 j.2))
    where
      taken : (xs : List ℕ) (i j k : ℕ) → j < i → slice_get xs j ≡ Some k → slice_get (take i xs) j ≡ Some k
      taken [] i j k h e = absurd (cc)
      taken (x ∷ xs) zero j k h e = absurd (omega arith)
      taken (x ∷ xs) (suc i) zero k h e = e
      taken (x ∷ xs) (suc i) (suc j) k h e = taken xs i j k (omega arith) e

  -- one class more has its row
  pub one_more_has : (lists more : List Actuals) → Keeps lists more → (rows : List (Option DerivationRow)) (i d : ℕ)
      → slice_get order i ≡ Some d → d < length rows → (r : DerivationRow) → IsDerivationRow u more d r
      → HaveDerivations u lists rows (take i order)
      → HaveDerivations u more (set rows d (Some r)) (take (i + 1) order)
  one_more_has lists more keeps rows i d place within r is have = λ k m.
      go k (subst (λ xs. is_member k xs ≡ true) (take_place order i d place) m) (cases_Bool (d == k))
    where
      go : (k : ℕ) → is_member k (take i order ++ d ∷ []) ≡ true → ((d == k) ≡ true) ⊎ ((d == k) ≡ false)
          → (r' : DerivationRow) × (slice_get (set rows d (Some r)) k ≡ Some (Some r')) × IsDerivationRow u more k r'
      go k m (inl t) =
          let same = eqb-true d k t in (
            r,
            subst (λ k. slice_get (set rows d (Some r)) k ≡ Some (Some r)) same (get-set_same rows d (Some r) within),
            subst (λ k. IsDerivationRow u more k r) same is,
          )
      go k m (inr f) =
          let other = eqb-false d k f in
          let before = last_or_before k d (take i order) m other in
          let old = rows_still lists more keeps u rows (take i order) have k before in
          (old.0, get-set_other rows d k (Some r) other ∙ old.1, old.2)

  abbrev pub faults_so_far : ℕ → List Fault
  faults_so_far i = flat_map (λ d. derivation_faults u (line_of u d)) (take i order)

  -- its faults stand behind those before
  pub one_more_judged : (old before after : List Fault) (i d : ℕ) → slice_get order i ≡ Some d
      → before ≡ old ++ faults_so_far i → after ≡ before ++ derivation_faults u (line_of u d)
      → after ≡ old ++ faults_so_far (i + 1)
  one_more_judged old before after i d place so_far added =
      added
      ∙ (ap (λ fs. fs ++ derivation_faults u (line_of u d)) so_far
      ∙ (flat_map_more (λ d. derivation_faults u (line_of u d)) old (take i order) d
      ∙ ap (λ ds. old ++ flat_map (λ d. derivation_faults u (line_of u d)) ds) (sym (take_place order i d place))))

  -- all have their rows in the end
  pub all_derivations : (lists : List Actuals) (filled : List (Option DerivationRow)) → AreDerived u lists filled order
      → (x : Derivations) → lists_of x.lists ≡ lists → length x.rows.items ≡ length filled
      → ((d : ℕ) (r : DerivationRow) → slice_get x.rows.items d ≡ Some r → slice_get filled d ≡ Some (Some r))
      → AreDerivations u x
  all_derivations lists filled are x same long each = record {
    long = long ∙ are.long;
    each = λ d r here.
        let at = each d r here in
        let within = slice_get_within filled d (Some r) at in
        let whole = are.long in
        let count = graph_length u in
        let place = is.classes.each d (omega arith) in
        let own = are.done_have d (is_member-from_place order place.0 d place.1) in
        let found : own.0 ≡ r = same_Some own.0 r (same_Some (Some own.0) (Some r) (sym own.1 ∙ at)) in
        subst (λ lists. IsDerivationRow u lists d r) (sym same) (subst (IsDerivationRow u lists d) found own.2);
  }
