-- The classes of a universe without a breach are a hierarchy of valid types.
use Rattle.std.proofs.Common.{◌≡◌, ℕ, false, inr, List, [], ◌∷◌, length, Option, Some, None, refl, sym, ap, subst, ◌∙◌}
use Rattle.std.specs.List.{flat_map}
use Rattle.std.specs.Option.{option_map_or}
use Rattle.std.specs.Prelude.{slice_get}
use Rattle.eif_base.specs.declared.root.Root.{Root}
use Rattle.eif_classes.specs.Constraints.{detachable_any}
use Rattle.eif_classes.specs.Resolution.{resolved}
use Rattle.eif_lineage_laws.specs.Universes.{NamesClass, IsNamed}
use Rattle.eif_lineage_laws.proofs.KernelClasses.{any_first, any_has_no_formal}
use Rattle.eif_lineage_laws.proofs.Written.{each_clause, nested_again, among_parents, among_constraints}
use Rattle.eif_lineage_laws.proofs.Numbers.{class_number_within}
use Rattle.eif_lineage_laws.proofs.EachItem.{AllOf, all_at, all_then, all_left, all_flat, all_both}
use Rattle.eif_lineage_laws.proofs.WholeClasses.{AreNamed, any_named, types_named, parents_named, constraints_named}
use Rattle.eif_rules.specs.FaultForms.{IsNone}
use Rattle.eif_rules.specs.UniverseRules.{formal_count, UniverseBroken}
use Rattle.eif_system.specs.Graph.{IsOrder}
use Rattle.eif_system.specs.Inheritance.{clauses, graph_of}
use Rattle.eif_system.specs.Kernel.{any_name}
use Rattle.eif_system.specs.Universe.{universe, is_formal}
use Rattle.eif_system.specs.WrittenTypes.{Written, written_types, present, nested, type_name}
use Rattle.eif_tree.specs.Tree.{TypeT, type_at, FormalT, ClassT}
use Rattle.eif_type_laws.specs.ClassTypes.{IsSomething, actual_count, IsOf, AreOf, constraints_by, constraints_of, EachClause, IsClauseOf, IsHierarchy}
use Rattle.eif_type_laws.proofs.Resolving.{all_meant, count_meant, IsWithin, named_within, named_closed, meant_of, all_meant_of, parent_meant}

-- ---- the hierarchy

module _ (u : List ClassT) (c : ClassT) (n : ℕ) where
  -- of a type all in which is within n formals, what stands in it
  parts_of : (t : TypeT) → AllOf (IsWithin u c n) (nested t) → AreOf u n (all_meant u c t)
  parts_of (type_at p q m name ts) h = all_meant_of u c n ts h.1

module _ (given : List ClassT) (root : Root) (never : IsNone (UniverseBroken given root)) where
  abbrev u : List ClassT
  u = universe given

  -- all types in the parent types of the clauses have names
  parent_types : (d : ℕ) (c : ClassT) → slice_get u d ≡ Some c →
      AllOf (λ p. AllOf (IsNamed u c) (nested p.parent)) (clauses c)
  parent_types d c at =
      each_clause (λ p. AllOf (IsNamed u c) (nested p.parent)) c (inr (0, any_named given root never d c at), tt)
      (among_parents c (AreNamed u c) (types_named given root never d c at))

  pub is_clause : EachClause u (λ d c p k. IsClauseOf u c p k)
  is_clause d c at i p among k names =
      let n = all_at (λ p. (k : ℕ) × NamesClass u c p.parent k) (clauses c) i p
      (parents_named given root never d c at) among in
      let m = parent_meant u c p n.0 k n.1 names in
      let w = all_at (λ p. AllOf (IsNamed u c) (nested p.parent)) (clauses c) i p (parent_types d c at) among in
      record {
        count = ap actual_count m.0 ∙ (count_meant u c p.parent ∙ (n.1.count ∙ ap (formal_count u) m.1));
        types = subst (AreOf u (length c.formals)) (sym m.0)
            (parts_of u c (length c.formals) p.parent
            (all_then (IsNamed u c) (IsWithin u c (length c.formals)) (nested p.parent) (named_within u c) w));
      }

  -- ---- constraints

  any_closed : IsSomething detachable_any × IsOf u 0 detachable_any
  any_closed = (tt, (class_number_within u any_name 0 (any_first given), sym (any_has_no_formal given), tt))

  constraint_of : (c : ClassT) (o : Option TypeT) → AllOf (λ t. AllOf (IsNamed u c) (nested t)) (present o) →
      AllOf (λ s. is_formal c (type_name s) ≡ false) (flat_map nested (present o)) →
      IsSomething (option_map_or (resolved u c) o detachable_any)
      × IsOf u 0 (option_map_or (resolved u c) o detachable_any)
  constraint_of c None h g = any_closed
  constraint_of c (Some t) h g =
      meant_of u c 0 t (all_both (IsNamed u c) (λ s. is_formal c (type_name s) ≡ false) (IsWithin u c 0) (nested t)
      (named_closed u c) h.0 (all_left (λ s. is_formal c (type_name s) ≡ false) (nested t) [] g))

  constraints_closed : (c : ClassT) (fs : List FormalT) →
      AllOf (λ f. AllOf (λ t. AllOf (IsNamed u c) (nested t)) (present f.constraint)) fs →
      AllOf (λ f. AllOf (λ s. is_formal c (type_name s) ≡ false) (flat_map nested (present f.constraint))) fs →
      AreOf u 0 (constraints_by u c fs)
  constraints_closed c [] h g = tt
  constraints_closed c (f ∷ fs) h g =
      let k = constraint_of c f.constraint h.0 g.0 in (k.0, k.1, constraints_closed c fs h.1 g.1)

  pub all_constraints_closed : (k : ℕ) → AreOf u 0 (constraints_of u k)
  all_constraints_closed k = go (slice_get u k) refl
    where
      go : (o : Option ClassT) → slice_get u k ≡ o → AreOf u 0 (constraints_of u k)
      go None e = rw e tt
      go (Some c) e = rw e (constraints_closed c c.formals
          (all_flat (λ f. present f.constraint) (λ t. AllOf (IsNamed u c) (nested t)) c.formals
          (among_constraints c (AreNamed u c) (types_named given root never k c e)))
          (constraints_named given root never k c e))

  pub hierarchy : (order : List ℕ) → IsOrder (graph_of u) order → IsHierarchy u order
  hierarchy order is = record { ordered = is; parents = is_clause; constraints = all_constraints_closed }

  -- ---- written types

  pub written_of : (d : ℕ) (c : ClassT) → slice_get u d ≡ Some c → (i : ℕ) (w : Written) →
      slice_get (written_types c) i ≡ Some w → (j : ℕ) (t : TypeT) → slice_get (nested w.type_tree) j ≡ Some t →
      IsSomething (resolved u c t) × IsOf u (length c.formals) (resolved u c t)
  written_of d c at i w among j t inside =
      let all = all_at (AreNamed u c) (written_types c) i w (types_named given root never d c at) among in
      let here = all_at (λ t. AllOf (IsNamed u c) (nested t)) (nested w.type_tree) j t
      (nested_again (IsNamed u c) w.type_tree all) inside in
      meant_of u c (length c.formals) t
      (all_then (IsNamed u c) (IsWithin u c (length c.formals)) (nested t) (named_within u c) here)
