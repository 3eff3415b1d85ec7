-- The types of a universe without a breach of its rules and of those of derivations.
use Rattle.std.proofs.Common.{◌≡◌, ℕ, ◌+◌, ◌<◌, Bool, true, false, inl, inr, List, [], ◌∷◌, length, Option, Some, None, refl, sym, ap, subst, ◌∙◌, arith}
use Rattle.std.specs.List.{flat_map, enumerate_from, zip}
use Rattle.std.specs.Option.{option_map_or, option_and_then}
use Rattle.std.specs.Prelude.{slice_get, not, if◌then◌else◌}
use Rattle.eif_base.specs.declared.code.Code.TheVariants as code
use Rattle.eif_base.specs.declared.root.Root.{Root}
use Rattle.eif_classes.specs.Conformance.{conforms}
use Rattle.eif_classes.specs.Constraints.{detachable_any, formal_constraint}
use Rattle.eif_classes.specs.Resolution.{resolved, all_resolved}
use Rattle.eif_classes.specs.Types.{no_actuals}
use Rattle.eif_feature_rules.specs.DerivationRules.{derivation_faults, wrong_actual, class_named, actual_faults_by, actual_faults, written_actual_faults}
use Rattle.eif_feature_rules.specs.FeaturePhases.{class_derivation_faults, each_given, DerivationsBroken}
use Rattle.eif_lineage_laws.specs.Lineages.{line_over}
use Rattle.eif_lineage_laws.specs.Universes.{NamesClass, IsNamed}
use Rattle.eif_lineage_laws.proofs.KernelClasses.{OfKernel, of_each, given_at, integer_class, boolean_class}
use Rattle.eif_lineage_laws.proofs.EachItem.{AllOf, all_at, all_left, all_right, all_flat, all_both, all_numbers}
use Rattle.eif_lineage_laws.proofs.NoFaults.{none_left, none_right, none_of_each, none_where, none_in}
use Rattle.eif_lineage_laws.proofs.Numbers.{class_number_within}
use Rattle.eif_lineage_laws.proofs.Unfolding.{class_within, unfolded}
use Rattle.eif_lineage_laws.proofs.WholeClasses.{AreNamed, any_named, types_named, parents_named, has_order}
use Rattle.eif_lineage_laws.proofs.Written.{each_clause, nested_again, among_parents, among_constraints}
use Rattle.eif_rules.specs.FaultForms.{IsNone, fault_in}
use Rattle.eif_rules.specs.UniverseRules.{UniverseBroken}
use Rattle.eif_system.specs.Graph.{IsOrder}
use Rattle.eif_system.specs.Inheritance.{any_clause, clauses, graph_of}
use Rattle.eif_system.specs.Kernel.{kernel, kernel_count, any_class, character_class, string_class, array_class}
use Rattle.eif_system.specs.Lineage.{line, top, up, line_of}
use Rattle.eif_system.specs.Universe.{universe, class_number}
use Rattle.eif_system.specs.WrittenTypes.{Written, written_types, present, nested, nested_in, type_list, type_place}
use Rattle.eif_tree.specs.Tree.{TypeT, type_at, Types, no_types, and_type, FormalT, ClassT}
use Rattle.eif_type_laws.specs.ClassTypes.{constraints_by, constraints_of, Meet, IsValid, AreValid, EachClause, IsValidClause, Defined}
use Rattle.eif_type_laws.proofs.Closed.{all_closed_valid}
use Rattle.eif_type_laws.proofs.Defining.{all_defined}
use Rattle.eif_type_laws.proofs.WholeUniverses.{all_constraints_closed, hierarchy}
use Rattle.eif_type_laws.proofs.Resolving.{all_meant, class_meant, formal_meant, parent_meant}

not_true : (b : Bool) → not b ≡ false → b ≡ true
not_true true h = refl
not_true false h = cc

-- ---- types whose actuals break no rule

module _ (u : List ClassT) (d : ℕ) (c : ClassT) (feature : List ℕ) where
  abbrev pub IsFine : TypeT → Type 0
  IsFine t = IsNamed u c t × (actual_faults u d c feature t ≡ [])

  -- actuals for the formals of the class a
  meet_by : (a : ClassT) (ts : Types) (fs : List FormalT) → length (type_list ts) ≡ length fs →
      AllOf (λ x. wrong_actual u d c feature a x.0 x.1 ≡ []) (zip (type_list ts) fs) →
      Meet u d (all_resolved u c ts) (constraints_by u a fs)
  meet_by a no_types [] n h = tt
  meet_by a no_types (f ∷ fs) n h = absurd (omega arith)
  meet_by a (and_type t ts) [] n h = absurd (omega arith)
  meet_by a (and_type t ts) (f ∷ fs) n h = (
    not_true (conforms u d (resolved u c t) (formal_constraint u a f))
        (none_where _ (fault_in c feature code.Xgen 2 (type_place t) f.name) h.0),
    meet_by a ts fs (omega arith) h.1,
  )

  -- those of a type that names a class
  meet_of : (t : TypeT) (k : ℕ) → NamesClass u c t k → k < length u → actual_faults u d c feature t ≡ [] →
      Meet u d (all_meant u c t) (constraints_of u k)
  meet_of (type_at p q m n ts) k is within h = go (class_within u k within)
    where
      go : (a : ClassT) × (slice_get u k ≡ Some a) → Meet u d (all_resolved u c ts) (constraints_of u k)
      go a =
          let t = type_at p q m n ts in
          let denoted = ap (λ b. if b then None else class_number u n) is.no_formal ∙ is.number in
          let named : class_named u c t ≡ Some a.0 = ap (option_and_then (slice_get u)) denoted ∙ a.1 in
          let none : actual_faults_by u d c feature t a.0 ≡ [] =
          sym (ap (λ o. option_map_or (actual_faults_by u d c feature t) o []) named) ∙ h in
          let count = is.count ∙ ap (λ o. option_map_or (λ c. length c.formals) o 0) a.1 in
          rw a.1 (meet_by a.0 ts a.0.formals count
          (none_of_each (λ x. wrong_actual u d c feature a.0 x.0 x.1) (zip (type_list ts) a.0.formals) none))

  mutual
    pub valid_of : (t : TypeT) → AllOf IsFine (nested t) → IsValid u d (resolved u c t)
    valid_of (type_at p q m n ts) h = here h.0.0 (all_valid_of ts h.1)
      where
        here : IsNamed u c (type_at p q m n ts) → AreValid u d (all_resolved u c ts) →
            IsValid u d (resolved u c (type_at p q m n ts))
        here (inl f) rest = subst (IsValid u d) (sym (formal_meant u c (type_at p q m n ts) f).1) tt
        here (inr k) rest =
            subst (IsValid u d) (sym (class_meant u c (type_at p q m n ts) k.0 k.1)) (
              meet_of (type_at p q m n ts) k.0 k.1 (class_number_within u n k.0 k.1.number) h.0.1,
              rest,
            )

    all_valid_of : (ts : Types) → AllOf IsFine (nested_in ts) → AreValid u d (all_resolved u c ts)
    all_valid_of no_types h = tt
    all_valid_of (and_type t ts) h = (
      valid_of t (all_left IsFine (nested t) (nested_in ts) h),
      all_valid_of ts (all_right IsFine (nested t) (nested_in ts) h),
    )

-- ---- the kernel's classes break no rule of derivations

module _ (given : List ClassT) where
  abbrev u : List ClassT
  u = universe given

  kernel_actuals : OfKernel (λ d c. written_actual_faults u d c ≡ [])
  unfolding kernel
  kernel_actuals =
      record { any = refl; integer = refl; boolean = refl; character = refl; string = refl; array = refl }

  any_at : slice_get u 0 ≡ Some any_class
  unfolding kernel
  any_at = refl

  module _ (first : line_of u 0 ≡ line 0 any_class top) where
    kernel_derivations : OfKernel (λ d c. derivation_faults u (line_over u d c) ≡ [])
    unfolding kernel
    kernel_derivations = record {
      any = refl;
      integer = subst (λ l. derivation_faults u (line 1 integer_class (up any_clause l top)) ≡ []) (sym first) refl;
      boolean = subst (λ l. derivation_faults u (line 2 boolean_class (up any_clause l top)) ≡ []) (sym first) refl;
      character = subst (λ l. derivation_faults u (line 3 character_class (up any_clause l top)) ≡ []) (sym first) refl;
      string = subst (λ l. derivation_faults u (line 4 string_class (up any_clause l top)) ≡ []) (sym first) refl;
      array = subst (λ l. derivation_faults u (line 5 array_class (up any_clause l top)) ≡ []) (sym first) refl;
    }

  -- ANY has no constraints to meet
  any_meet : (d : ℕ) → Meet u d no_actuals (constraints_of u 0)
  unfolding kernel
  any_meet d = tt

-- ---- all classes

module _ (given : List ClassT) (root : Root) (never : IsNone (UniverseBroken given root))
    (underived : IsNone (DerivationsBroken given)) where
  abbrev classes : List ClassT
  classes = universe given

  order : (order : List ℕ) × IsOrder (graph_of classes) order
  order = has_order given root never

  unfolds : (d : ℕ) (c : ClassT) → slice_get classes d ≡ Some c → line_of classes d ≡ line_over classes d c
  unfolds d c at = unfolded classes order.0 order.1 d c at

  judged : (i : ℕ) (c : ClassT) → slice_get given i ≡ Some c →
      class_derivation_faults classes (line_over classes (kernel_count + i) c) ≡ []
  judged i c at =
      let judge = λ (x : ℕ × ClassT). class_derivation_faults classes (line_of classes (kernel_count + x.0)) in
      let none = none_in (each_given class_derivation_faults given) underived in
      let each = none_of_each judge (enumerate_from 0 given) none in
      let here = all_numbers (λ n. class_derivation_faults classes (line_of classes (kernel_count + n)) ≡ [])
      0 given i c each at in
      let there : class_derivation_faults classes (line_of classes (kernel_count + i)) ≡ [] =
      subst (λ n. class_derivation_faults classes (line_of classes (kernel_count + n)) ≡ []) (omega arith) here in
      sym (ap (class_derivation_faults classes) (unfolds (kernel_count + i) c (given_at given i c at))) ∙ there

  no_derivation_fault : (d : ℕ) (c : ClassT) → slice_get classes d ≡ Some c →
      derivation_faults classes (line_of classes d) ≡ []
  no_derivation_fault d c at =
      ap (derivation_faults classes) (unfolds d c at)
      ∙ of_each given (λ d c. derivation_faults classes (line_over classes d c) ≡ [])
      (kernel_derivations given (unfolds 0 any_class (any_at given)))
      (λ i c at. none_left (derivation_faults classes (line_over classes (kernel_count + i) c))
      (written_actual_faults classes (kernel_count + i) c) (judged i c at)) d c at

  no_actual_fault : (d : ℕ) (c : ClassT) → slice_get classes d ≡ Some c → written_actual_faults classes d c ≡ []
  no_actual_fault = of_each given (λ d c. written_actual_faults classes d c ≡ []) (kernel_actuals given)
      (λ i c at. none_right (derivation_faults classes (line_over classes (kernel_count + i) c))
      (written_actual_faults classes (kernel_count + i) c) (judged i c at))

  pub defined : Defined classes
  defined = all_defined classes order.0 order.1 no_derivation_fault

  -- ---- valid types

  abbrev AreFine : ℕ → ClassT → Written → Type 0
  AreFine d c w = AllOf (IsFine classes d c w.feature) (nested w.type_tree)

  types_fine : (d : ℕ) (c : ClassT) → slice_get classes d ≡ Some c → AllOf (AreFine d c) (written_types c)
  types_fine d c at =
      all_both (AreNamed classes c) (λ w. flat_map (actual_faults classes d c w.feature) (nested w.type_tree) ≡ [])
      (AreFine d c) (written_types c)
      (λ w named none. all_both (IsNamed classes c) (λ t. actual_faults classes d c w.feature t ≡ [])
      (IsFine classes d c w.feature) (nested w.type_tree) (λ t h g. (h, g)) named
      (none_of_each (actual_faults classes d c w.feature) (nested w.type_tree) none))
      (types_named given root never d c at)
      (none_of_each (λ w. flat_map (actual_faults classes d c w.feature) (nested w.type_tree)) (written_types c)
      (no_actual_fault d c at))

  parents_fine : (d : ℕ) (c : ClassT) → slice_get classes d ≡ Some c →
      AllOf (λ p. AllOf (IsFine classes d c []) (nested p.parent)) (clauses c)
  parents_fine d c at =
      each_clause (λ p. AllOf (IsFine classes d c []) (nested p.parent)) c
      ((inr (0, any_named given root never d c at), no_actuals_no_fault (class_named classes c any_clause.parent)), tt)
      (among_parents c (AreFine d c) (types_fine d c at))
    where
      no_actuals_no_fault : (o : Option ClassT) →
          option_map_or (actual_faults_by classes d c [] any_clause.parent) o [] ≡ []
      no_actuals_no_fault None = refl
      no_actuals_no_fault (Some a) = refl

  pub clauses_valid : EachClause classes (IsValidClause classes)
  clauses_valid d c at i p among k names =
      let n = all_at (λ p. (k : ℕ) × NamesClass classes c p.parent k) (clauses c) i p
      (parents_named given root never d c at) among in
      let m = parent_meant classes c p n.0 k n.1 names in
      let w = all_at (λ p. AllOf (IsFine classes d c []) (nested p.parent)) (clauses c) i p
      (parents_fine d c at) among in
      let v = subst (IsValid classes d) (class_meant classes c p.parent n.0 n.1) (valid_of classes d c [] p.parent w) in
      record {
        meet = subst (λ xs. Meet classes d xs (constraints_of classes k)) (sym m.0)
            (subst (λ k. Meet classes d (all_meant classes c p.parent) (constraints_of classes k)) m.1 v.0);
        valid = subst (AreValid classes d) (sym m.0) v.1;
      }

  -- a formal without a constraint has one without actuals
  constraints_fine : (d : ℕ) (c : ClassT) (fs : List FormalT) →
      AllOf (λ f. AllOf (λ t. AllOf (IsFine classes d c []) (nested t)) (present f.constraint)) fs →
      AreValid classes d (constraints_by classes c fs)
  constraints_fine d c [] h = tt
  constraints_fine d c (f ∷ fs) h = (here f.constraint h.0, constraints_fine d c fs h.1)
    where
      here : (o : Option TypeT) → AllOf (λ t. AllOf (IsFine classes d c []) (nested t)) (present o) →
          IsValid classes d (option_map_or (resolved classes c) o detachable_any)
      here None h = (any_meet given d, tt)
      here (Some t) h = valid_of classes d c [] t h.0

  pub constraints_valid : (d e : ℕ) → AreValid classes e (constraints_of classes d)
  constraints_valid d e = all_closed_valid classes order.0 (hierarchy given root never order.0 order.1) d e
      (constraints_of classes d) (all_constraints_closed given root never d) (go (slice_get classes d) refl)
    where
      go : (o : Option ClassT) → slice_get classes d ≡ o → AreValid classes d (constraints_of classes d)
      go None e = rw e tt
      go (Some c) e = rw e (constraints_fine d c c.formals
          (all_flat (λ f. present f.constraint) (λ t. AllOf (IsFine classes d c []) (nested t)) c.formals
          (among_constraints c (AreFine d c) (types_fine d c e))))

  pub written_valid : (d : ℕ) (c : ClassT) → slice_get classes d ≡ Some c → (i : ℕ) (w : Written) →
      slice_get (written_types c) i ≡ Some w → (j : ℕ) (t : TypeT) → slice_get (nested w.type_tree) j ≡ Some t →
      IsValid classes d (resolved classes c t)
  written_valid d c at i w among j t inside =
      valid_of classes d c w.feature t
      (all_at (λ t. AllOf (IsFine classes d c w.feature) (nested t)) (nested w.type_tree) j t
      (nested_again (IsFine classes d c w.feature) w.type_tree
      (all_at (AreFine d c) (written_types c) i w (types_fine d c at) among)) inside)
