-- A constant has the type of its literal, in a universe whose classes break no rule of features.
use Rattle.std.proofs.Common.{◌≡◌, ℕ, ◌+◌, Bool, true, false, List, [], ◌∷◌, ◌++◌, length, Option, Some, None, refl, sym, ap, subst, ◌∙◌, arith}
use Rattle.std.specs.List.{flat_map, enumerate_from, list_all}
use Rattle.std.specs.Prelude.{slice_get, not, ◌==◌, if◌then◌else◌, nat_lt}
use Rattle.eif_ancestry.proofs.Members.{or_right}
use Rattle.eif_base.specs.declared.code.Code.TheVariants as code
use Rattle.eif_base.specs.declared.root.Root.{Root}
use Rattle.eif_tree.specs.declared.tree.Literal.{Literal}
use Rattle.eif_tree.specs.declared.tree.Literal.TheVariants as value
use Rattle.eif_tree.specs.declared.tree.Mark.TheVariants.{Attached, Plain}
use Rattle.eif_tree.specs.declared.tree.NameAt.{NameAt}
use Rattle.eif_tree.specs.Members.{has_name, declarations}
use Rattle.eif_tree.specs.Tree.{TypeT, constant, DeclT, ClassT}
use Rattle.eif_classes.specs.Conformance.{conforms}
use Rattle.eif_classes.specs.Descent.{above}
use Rattle.eif_classes.specs.Features.{declaration_of, entries, features}
use Rattle.eif_classes.specs.Resolution.{resolved}
use Rattle.eif_classes.specs.Types.{TyT, class_type, no_actuals, and_actual, actual_at, same_type}
use Rattle.eif_body_rules.specs.OperatorRules.{literal_type}
use Rattle.eif_feature_rules.specs.DeclarationRules.{declared_name_faults, literal_class, has_literal_type, wrong_constant, fault_at_declared, declaration_faults}
use Rattle.eif_feature_rules.specs.FeaturePhases.{own_feature_faults, is_clean, feature_faults}
use Rattle.eif_feature_rules.specs.FeatureRules.{adaptation_faults, name_faults}
use Rattle.eif_feature_rules.specs.ReplicationRules.{replication_faults}
use Rattle.eif_feature_rules.specs.RuleForms.{with_earlier, each_clause, DeclaredName, names_of_declaration, declared_here}
use Rattle.eif_feature_rules.specs.SelectionRules.{selection_faults}
use Rattle.eif_lineage_laws.specs.Lineages.{line_over}
use Rattle.eif_lineage_laws.proofs.Descending.{lines_of}
use Rattle.eif_lineage_laws.proofs.EachItem.{AllOf, all_map, all_flat, all_numbers}
use Rattle.eif_lineage_laws.proofs.KernelClasses.{of_each}
use Rattle.eif_lineage_laws.proofs.NoFaults.{none_left, none_right, none_of_each, none_where, none_in}
use Rattle.eif_lineage_laws.proofs.Unfolding.{by_parents, Step, unfolded}
use Rattle.eif_lineage_laws.proofs.WholeClasses.{has_order}
use Rattle.eif_rules.specs.UniverseRules.{formal_count}
use Rattle.eif_system.specs.Graph.{IsOrder}
use Rattle.eif_system.specs.Inheritance.{clauses, parent_numbers, graph_of}
use Rattle.eif_system.specs.Kernel.{kernel_count}
use Rattle.eif_system.specs.Lineage.{line_of}
use Rattle.eif_system.specs.Universe.{universe}
use Rattle.eif_table_laws.specs.WholeClasses.{is_whole}
use Rattle.eif_table_laws.proofs.Bound.{clean_none}
use Rattle.eif_table_laws.proofs.Wholeness.{and_both, and_first, all_pass, by_parents_whole}
use Rattle.eif_type_laws.specs.ClassTypes.{IsOf, IsHierarchy}
use Rattle.eif_type_laws.proofs.Conforming.{reflexive_at}
use Rattle.eif_type_laws.proofs.SameTypes.{same_actuals_are}
use Rattle.eif_type_laws.proofs.WholeUniverses.{hierarchy}
use Rattle.eif_binding_laws.specs.WellFormed.{IsDerived}
use Rattle.eif_binding_laws.proofs.Searches.{found_has, found_passes}

-- ---- a constant that breaks no rule

literal_type_is : (v : Literal) → class_type (literal_class v) Attached no_actuals ≡ literal_type v
literal_type_is (value.Int i) = refl
literal_type_is (value.Char i) = refl
literal_type_is (value.Text i) = refl
literal_type_is (value.Bool i) = refl

same_type_is : (a b : TyT) → same_type a b ≡ true → a ≡ b
same_type_is a b h =
    ap (λ ts. actual_at ts 0)
    (same_actuals_are (and_actual a no_actuals) (and_actual b no_actuals) (and_both (same_type a b) true h refl))

not_false : (b : Bool) → not b ≡ false → b ≡ true
not_false true h = refl
not_false false h = cc

module _ (u : List ClassT) (c : ClassT) where
  -- the type of a constant is that of its literal
  abbrev pub HasType : Literal → Option TypeT → Type 0
  HasType v o = (t : TypeT) × (o ≡ Some t) × (resolved u c t ≡ literal_type v)

  typed_by : (v : Literal) (o : Option TypeT) → has_literal_type u c (constant v) o ≡ true → HasType v o
  typed_by v None h = cc
  typed_by v (Some t) h = (
    t,
    refl,
    same_type_is (resolved u c t) (class_type (literal_class v) Attached no_actuals) h ∙ literal_type_is v,
  )

  abbrev IsKept : DeclaredName → Type 0
  IsKept x = wrong_constant u c x ≡ []

  kept_by_name : (x : DeclT) (ns : List NameAt) (n : List ℕ) → has_name ns n ≡ true →
      AllOf (λ m. IsKept (record { name = m; tree = x })) ns → has_literal_type u c x.kind x.result_type ≡ true
  kept_by_name x [] n is h = cc
  kept_by_name x (m ∷ ns) n is h =
      not_false (has_literal_type u c x.kind x.result_type)
      (none_where (not (has_literal_type u c x.kind x.result_type)) (fault_at_declared c code.Vffd 1 m) h.0)

  pub constant_typed : flat_map (wrong_constant u c) (declared_here c) ≡ [] → (n : List ℕ) (x : DeclT) →
      declaration_of c n ≡ Some x → (v : Literal) → x.kind ≡ constant v → HasType v x.result_type
  constant_typed none n x found v e =
      let each = all_flat names_of_declaration IsKept (declarations c)
      (none_of_each (wrong_constant u c) (declared_here c) none) in
      let here = found_has (λ x. AllOf IsKept (names_of_declaration x)) (λ x. has_name x.names n) (declarations c) x
      each found in
      let kept = kept_by_name x x.names n (found_passes (λ x. has_name x.names n) (declarations c) x found)
      (all_map (λ m. record { name = m; tree = x }) IsKept x.names here) in
      typed_by v x.result_type (subst (λ k. has_literal_type u c k x.result_type ≡ true) e kept)

-- ---- each class keeps the rule

module _ (given : List ClassT) (root : Root) (is : IsDerived given root) where
  abbrev u : List ClassT
  u = universe given

  abbrev ordered : (order : List ℕ) × IsOrder (graph_of u) order
  ordered = has_order given root is.universe

  abbrev AncestorsClean : ℕ → Type 0
  AncestorsClean d = list_all (is_clean u) (above (line_of u d)) ≡ true

  judged : (i : ℕ) (c : ClassT) → slice_get given i ≡ Some c → feature_faults u (line_of u (kernel_count + i)) ≡ []
  judged i c at =
      let each = none_of_each (λ (x : ℕ × ClassT). feature_faults u (line_of u (kernel_count + x.0)))
      (enumerate_from 0 given) (none_in _ is.features) in
      let here = all_numbers (λ n. feature_faults u (line_of u (kernel_count + n)) ≡ []) 0 given i c each at in
      subst (λ n. feature_faults u (line_of u (kernel_count + n)) ≡ []) (omega arith) here

  own_none : (i : ℕ) (c : ClassT) → slice_get given i ≡ Some c → AncestorsClean (kernel_count + i) →
      own_feature_faults u (line_of u (kernel_count + i)) ≡ []
  own_none i c at clean =
      ap (λ b. if b then own_feature_faults u (line_of u (kernel_count + i)) else []) (sym clean) ∙ judged i c at

  clean_by : (d : ℕ) (c : ClassT) → slice_get u d ≡ Some c → AncestorsClean d → is_clean u d ≡ true
  clean_by = of_each given (λ d c. AncestorsClean d → is_clean u d ≡ true)
      record {
        any = λ h. refl;
        integer = λ h. refl;
        boolean = λ h. refl;
        character = λ h. refl;
        string = λ h. refl;
        array = λ h. refl;
      }
      (λ i c at h. or_right (nat_lt (kernel_count + i) kernel_count) _ (ap (λ xs. length xs == 0) (own_none i c at h)))

  whole_step : Step u ordered.0 ordered.1 (λ d. is_whole u d ≡ true)
  whole_step d c at parents =
      let clean = by_parents_whole given root is.universe d c at
      ∙ all_pass (is_whole u) (parent_numbers u c) parents in
      and_both (is_clean u d) _ (clean_by d c at clean) clean

  no_fault : (d : ℕ) (c : ClassT) → slice_get u d ≡ Some c → own_feature_faults u (line_over u d c) ≡ []
  no_fault d c at =
      let whole = by_parents u ordered.0 ordered.1 (λ d. is_whole u d ≡ true) whole_step d c at in
      sym (ap (own_feature_faults u) (unfolded u ordered.0 ordered.1 d c at))
      ∙ clean_none given root is.universe d (and_first (is_clean u d) _ whole)

  no_wrong_constant : (d : ℕ) (c : ClassT) → slice_get u d ≡ Some c →
      flat_map (wrong_constant u c) (declared_here c) ≡ []
  no_wrong_constant d c at =
      let ups = lines_of u c (clauses c) in
      let l = line_over u d c in
      let adaptations = each_clause (adaptation_faults c) ups in
      let declarations = declaration_faults u c (entries ups) in
      let names = name_faults u c (features l) (above l) in
      let selections = selection_faults u c ups (above l) in
      let declared : declarations ≡ [] =
      none_right adaptations declarations
      (none_left (adaptations ++ declarations) names
      (none_left (adaptations ++ declarations ++ names) selections
      (none_left (adaptations ++ declarations ++ names ++ selections) (replication_faults u c l (above l))
      (no_fault d c at)))) in
      none_right
      (flat_map (λ x. declared_name_faults c (entries ups) x.0 x.1) (with_earlier (declared_here c)))
      (flat_map (wrong_constant u c) (declared_here c)) declared

  -- a constant is declared with a type to which its literal conforms
  pub constant_conforms : (d : ℕ) (c : ClassT) → slice_get u d ≡ Some c → (n : List ℕ) (x : DeclT) →
      declaration_of c n ≡ Some x →
      ((t : TypeT) → x.result_type ≡ Some t → IsOf u (formal_count u d) (resolved u c t)) →
      (v : Literal) → x.kind ≡ constant v →
      (t : TypeT) × (x.result_type ≡ Some t) × (conforms u d (literal_type v) (resolved u c t) ≡ true)
  constant_conforms d c at n x found formed v e =
      let t = constant_typed u c (no_wrong_constant d c at) n x found v e in
      let h = hierarchy given root is.universe ordered.0 ordered.1 in (
        t.0,
        t.1,
        subst (λ r. conforms u d (literal_type v) r ≡ true) (sym t.2)
            (literal_self h v (subst (IsOf u (formal_count u d)) t.2 (formed t.0 t.1))),
      )
    where
      literal_self : IsHierarchy u ordered.0 → (v : Literal) → IsOf u (formal_count u d) (literal_type v) →
          conforms u d (literal_type v) (literal_type v) ≡ true
      literal_self h (value.Int i) w = reflexive_at u ordered.0 h d (literal_type (value.Int i)) w tt Plain Plain refl
      literal_self h (value.Char i) w = reflexive_at u ordered.0 h d (literal_type (value.Char i)) w tt Plain Plain refl
      literal_self h (value.Text i) w = reflexive_at u ordered.0 h d (literal_type (value.Text i)) w tt Plain Plain refl
      literal_self h (value.Bool b) w = reflexive_at u ordered.0 h d (literal_type (value.Bool b)) w tt Plain Plain refl
