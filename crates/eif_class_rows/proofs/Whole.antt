-- Which classes of a system are whole, by their faults.
use Rattle.std.proofs.Common.{◌≡◌, ℕ, Bool, true, false, List, [], length, Option, Some, None, sym, ap, subst, ◌∙◌}
use Rattle.std.proofs.lemmas.Bool.{eq-eqb}
use Rattle.std.specs.List.{list_all}
use Rattle.std.specs.Prelude.{slice_get, ◌==◌, nat_lt, if◌then◌else◌}
use Rattle.eif_ancestry.proofs.Members.{is_false, or_right}
use Rattle.eif_class_rows.specs.ClassRows.{IsRowIfSound}
use Rattle.eif_class_rows.specs.Filling.{IsRowIfWhole}
use Rattle.eif_classes.specs.Descent.{above}
use Rattle.eif_feature_rules.specs.FeaturePhases.{own_feature_faults, feature_faults, is_clean}
use Rattle.eif_lineage_laws.proofs.NoFaults.{none_of_each}
use Rattle.eif_lineage_laws.proofs.EachItem.{all_at}
use Rattle.eif_lineage_laws.proofs.Unfolding.{by_parents, place_at}
use Rattle.eif_rows.specs.Systems.{IsSystem}
use Rattle.eif_rows.specs.declared.row.Row.{Row}
use Rattle.eif_system.specs.Graph.{IsOrder, is_member}
use Rattle.eif_system.specs.Inheritance.{graph_of, parent_numbers}
use Rattle.eif_system.specs.Kernel.{kernel_count}
use Rattle.eif_system.specs.Lineage.{line_of}
use Rattle.eif_table_laws.proofs.Bound.{clean_none}
use Rattle.eif_table_laws.proofs.Wholeness.{all_pass, and_both, and_first, and_second, by_parents_whole}
use Rattle.eif_table_laws.specs.WholeClasses.{faults_by, is_whole}
use Rattle.eif_tree.specs.Tree.{ClassT}

module _ (u : List ClassT) (system : IsSystem u) where
  -- all ancestors are without a breach where the parents are whole
  pub whole_parents : (d : ℕ) (c : ClassT) → slice_get u d ≡ Some c →
      list_all (is_clean u) (above (line_of u d)) ≡ list_all (is_whole u) (parent_numbers u c)
  whole_parents = subst
      (λ v. (d : ℕ) (c : ClassT) → slice_get v d ≡ Some c →
      list_all (is_clean v) (above (line_of v d)) ≡ list_all (is_whole v) (parent_numbers v c))
      (sym system.is) (by_parents_whole system.given system.root system.sound)

  -- a class without a breach has no fault
  pub no_fault : (d : ℕ) → is_clean u d ≡ true → own_feature_faults u (line_of u d) ≡ []
  no_fault = subst (λ v. (d : ℕ) → is_clean v d ≡ true → own_feature_faults v (line_of v d) ≡ [])
      (sym system.is) (clean_none system.given system.root system.sound)

  -- a class without a fault is whole where its ancestors have no breach
  pub is_whole_by : (d : ℕ) → list_all (is_clean u) (above (line_of u d)) ≡ true →
      own_feature_faults u (line_of u d) ≡ [] → is_whole u d ≡ true
  is_whole_by d clean none =
      and_both (is_clean u d) (list_all (is_clean u) (above (line_of u d)))
      (or_right (nat_lt d kernel_count) (length (own_feature_faults u (line_of u d)) == 0)
      (eq-eqb (length (own_feature_faults u (line_of u d))) 0 (ap length none)))
      clean

  -- a class with a fault is not
  not_with_fault : (d : ℕ) → (own_feature_faults u (line_of u d) ≡ [] → ⊥) → is_whole u d ≡ false
  not_with_fault d some = is_false (is_whole u d)
      (λ t. some (no_fault d (and_first (is_clean u d) (list_all (is_clean u) (above (line_of u d))) t)))

  -- the row of a class is kept where it is whole
  pub row_if_whole : (d : ℕ) → list_all (is_clean u) (above (line_of u d)) ≡ true → (o : Option Row) →
      IsRowIfSound u d o → IsRowIfWhole u d o
  row_if_whole d clean None is = not_with_fault d is
  row_if_whole d clean (Some r) is = (is.0, is_whole_by d clean is.1)

  -- a class with a breach above it is not whole
  pub not_under_breach : (d : ℕ) → list_all (is_clean u) (above (line_of u d)) ≡ false → is_whole u d ≡ false
  not_under_breach d breach = is_false (is_whole u d) (λ t.
      let yes = and_second (is_clean u d) (list_all (is_clean u) (above (line_of u d))) t in
      let z : true ≡ false = sym yes ∙ breach in cc)

  -- what is judged of a class by whether there is a breach above it
  pub judged_where : (d : ℕ) (b : Bool) → list_all (is_clean u) (above (line_of u d)) ≡ b →
      feature_faults u (line_of u d) ≡ (if b then own_feature_faults u (line_of u d) else [])
  judged_where d b e = ap (λ b. if b then own_feature_faults u (line_of u d) else []) e

  -- where no class of the order has a fault each class is whole
  module _ (order : List ℕ) (is : IsOrder (graph_of u) order) (none : faults_by u order ≡ []) where
    next_whole : (d : ℕ) (c : ClassT) → slice_get u d ≡ Some c →
        ((k : ℕ) → is_member k (parent_numbers u c) ≡ true → is_whole u k ≡ true) → is_whole u d ≡ true
    next_whole d c at parents =
        let clean = whole_parents d c at ∙ all_pass (is_whole u) (parent_numbers u c) parents in
        let i = place_at u order is d c at in
        is_whole_by d clean
        (sym (judged_where d true clean)
        ∙ all_at (λ k. feature_faults u (line_of u k) ≡ []) order i.0 d
        (none_of_each (λ k. feature_faults u (line_of u k)) order none) i.1)

    pub all_whole : (d : ℕ) (c : ClassT) → slice_get u d ≡ Some c → is_whole u d ≡ true
    all_whole = by_parents u order is (λ d. is_whole u d ≡ true) next_whole
