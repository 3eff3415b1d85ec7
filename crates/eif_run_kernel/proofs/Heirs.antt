-- No class inherits from a class of the kernel but ANY.
use Rattle.std.proofs.Common.{◌≡◌, ℕ, true, false, inl, List, [], ◌++◌, Some, None, refl, sym, ap, subst, ◌∙◌}
use Rattle.std.proofs.lemmas.Bool.{eqb-true}
use Rattle.std.proofs.lemmas.Option.{same_Some}
use Rattle.std.specs.List.{flat_map, enumerate_from}
use Rattle.std.specs.Prelude.{slice_get, ◌==◌, if◌then◌else◌}
use Rattle.eif_ancestry.proofs.Members.{or_cases}
use Rattle.eif_base.specs.declared.code.Code.TheVariants as code
use Rattle.eif_base.specs.declared.root.Root.{Root}
use Rattle.eif_classes.specs.Ancestry.{ancestor}
use Rattle.eif_classes.specs.Descent.{descends, any_descends}
use Rattle.eif_classes.specs.Types.{Actuals}
use Rattle.eif_lineage_laws.proofs.Descending.{lines_of, descends_by}
use Rattle.eif_lineage_laws.proofs.EachItem.{AllOf, all_at, all_then}
use Rattle.eif_lineage_laws.proofs.KernelClasses.{of_each}
use Rattle.eif_lineage_laws.proofs.NoFaults.{none_left, none_right, none_of_each, none_where, none_in}
use Rattle.eif_lineage_laws.proofs.Unfolding.{Step, by_parents}
use Rattle.eif_lineage_laws.proofs.WholeClasses.{fine, any_named, has_order}
use Rattle.eif_lineage_laws.proofs.Written.{each_clause}
use Rattle.eif_rules.specs.FaultForms.{IsNone, fault_at}
use Rattle.eif_rules.specs.UniverseRules.{UniverseBroken, written_type_faults, numbered_formal_faults, formal_parent, is_closed_class, kernel_parent, parent_faults, many_parents, many_formals, text_faults}
use Rattle.eif_run_kernel.proofs.FinalClasses.{not_final}
use Rattle.eif_run_laws.specs.SystemLaws.{is_final}
use Rattle.eif_system.specs.Graph.{IsOrder}
use Rattle.eif_system.specs.Inheritance.{any_clause, clauses, parent_number, graph_of}
use Rattle.eif_system.specs.Kernel.{any_name}
use Rattle.eif_system.specs.Lineage.{line_of}
use Rattle.eif_system.specs.Universe.{universe, class_number}
use Rattle.eif_system.specs.WrittenTypes.{written_types, type_name, type_name_place}
use Rattle.eif_tree.specs.Tree.{ParentT, ClassT}
use Rattle.eif_type_laws.proofs.Ancestors.{ancestor_has_class, ancestor_descends}
use Rattle.eif_type_laws.proofs.Ways.{IsClauseTo, some_clause, clause_member}
use Rattle.eif_type_laws.proofs.WholeUniverses.{hierarchy}

-- the parents that a class without a breach writes break no rule of parents
clean_parents : (u : List ClassT) (c : ClassT) → text_faults u c ≡ [] →
    AllOf (λ p. parent_faults u c p ≡ []) c.parents
clean_parents u c h =
    let types = flat_map (written_type_faults u c) (written_types c) in
    let formals = flat_map (numbered_formal_faults u c) (enumerate_from 0 c.formals) in
    let parents = flat_map (parent_faults u c) c.parents in
    none_of_each (parent_faults u c) c.parents
    (none_right (types ++ formals) parents
    (none_left (types ++ formals ++ parents) (many_parents c)
    (none_left (types ++ formals ++ parents ++ many_parents c) (many_formals c) h)))

module _ (given : List ClassT) (root : Root) (never : IsNone (UniverseBroken given root)) where
  abbrev u : List ClassT
  u = universe given

  -- the class of the clause is none of the kernel but ANY
  abbrev IsOpen : ClassT → ParentT → Type 0
  IsOpen c p = (q : ℕ) → parent_number u c p ≡ Some q → is_final q ≡ false

  any_open : (d : ℕ) (c : ClassT) → slice_get u d ≡ Some c → IsOpen c any_clause
  any_open d c at q e =
      let n = any_named given root never d c at in
      let zero_is : Some 0 ≡ Some q =
      sym (ap (λ b. if b then None else class_number u any_name) n.no_formal ∙ n.number) ∙ e in
      subst (λ q. is_final q ≡ false) (same_Some 0 q zero_is) refl

  written_open : (i : ℕ) (c : ClassT) → slice_get given i ≡ Some c → AllOf (IsOpen c) c.parents
  written_open i c at =
      let none = none_in (text_faults u c) (λ f m. (fine given root never i c at).own f (inl m)) in
      all_then (λ p. parent_faults u c p ≡ []) (IsOpen c) c.parents (λ p h q e.
      not_final q
      (subst (λ o. is_closed_class o ≡ false) e
      (none_where _ (fault_at c code.Xker 1 (type_name_place p.parent) (type_name p.parent))
      (none_right (formal_parent c p) (kernel_parent u c p) h))))
      (clean_parents u c none)

  all_open : (d : ℕ) (c : ClassT) → slice_get u d ≡ Some c → AllOf (IsOpen c) (clauses c)
  all_open d c at =
      of_each given (λ d c. IsOpen c any_clause → AllOf (IsOpen c) (clauses c)) record {
        any = λ h. tt;
        integer = λ h. (h, tt);
        boolean = λ h. (h, tt);
        character = λ h. (h, tt);
        string = λ h. (h, tt);
        array = λ h. (h, tt);
      } (λ i c there h. each_clause (IsOpen c) c h (written_open i c there)) d c at (any_open d c at)

  abbrev order : (order : List ℕ) × IsOrder (graph_of u) order
  order = has_order given root never

  -- what is one of these or descends from it is it
  abbrev IsAlone : ℕ → Type 0
  IsAlone d = (k : ℕ) → is_final k ≡ true → descends (line_of u d) k ≡ true → d ≡ k

  alone : Step u order.0 order.1 IsAlone
  alone d c at parents k final h =
      or_cases (d ≡ k) (d == k) (any_descends (lines_of u c (clauses c)) k)
      (sym (descends_by u order.0 order.1 d k c at) ∙ h)
      (λ t. eqb-true d k t)
      (λ t. by (some_clause u c k (clauses c) t))
    where
      by : IsClauseTo u c k (clauses c) → d ≡ k
      by w =
          let member = clause_member u c (clauses c) w.place w.clause w.q w.among w.names in
          let same : w.q ≡ k = parents w.q member k final w.down in
          let open_q = all_at (IsOpen c) (clauses c) w.place w.clause (all_open d c at) w.among w.q w.names in
          let z : true ≡ false = sym final ∙ (ap is_final (sym same) ∙ open_q) in
          cc

  pub no_heirs : (d k : ℕ) (xs : Actuals) → is_final k ≡ true → ancestor u d k ≡ Some xs → d ≡ k
  no_heirs d k xs final h =
      let is = hierarchy given root never order.0 order.1 in
      let c = ancestor_has_class u order.0 is d k xs h in
      by_parents u order.0 order.1 IsAlone alone d c.0 c.1 k final (ancestor_descends u order.0 is d k xs h)
