-- Validity of types with actuals put in, and of the actuals of ancestors.
use Rattle.std.proofs.Common.{◌≡◌, ℕ, zero, suc, ◌+◌, Bool, true, false, List, length, Some, refl, sym, ap, subst, ◌∙◌, arith}
use Rattle.std.proofs.lemmas.Bool.{eqb-true}
use Rattle.std.specs.Prelude.{slice_get, ◌==◌}
use Rattle.eif_classes.specs.Ancestry.{ancestor}
use Rattle.eif_classes.specs.Conformance.{conforms}
use Rattle.eif_classes.specs.Constraints.{constraint}
use Rattle.eif_classes.specs.Resolution.{own_formals, clause_actuals}
use Rattle.eif_classes.specs.Types.{TyT, class_type, formal_type, none_type, Actuals, no_actuals, and_actual, marked, actual_at, put_in, put_in_all, formals_from}
use Rattle.eif_lineage_laws.proofs.Unfolding.{by_parents, Step}
use Rattle.eif_rules.specs.UniverseRules.{formal_count}
use Rattle.eif_system.specs.Inheritance.{clauses}
use Rattle.eif_tree.specs.Tree.{ClassT}
use Rattle.eif_tree.specs.declared.tree.Mark.{Mark}
use Rattle.eif_tree.specs.declared.tree.Mark.TheVariants.{Plain, Attached, Detachable}
use Rattle.eif_type_laws.specs.ClassTypes.{IsSomething, actual_count, IsOf, AreOf, constraints_of, Meet, IsValid, AreValid, EachClause, IsValidClause, IsHierarchy, Defined}
use Rattle.eif_type_laws.proofs.Ancestors.{own_is, via, ancestor_has_class, count_is, ancestor_of}
use Rattle.eif_type_laws.proofs.ClassConformance.{actual_if, constraint_is, constraint_count, to_class}
use Rattle.eif_type_laws.proofs.Conforming.{substituted, reflexive_at}
use Rattle.eif_type_laws.proofs.TypesKept.{closed_of, closed_put}
use Rattle.eif_type_laws.proofs.Ways.{clause_member}

module _ (u : List ClassT) (d : ℕ) where
  marked_valid : (m : Mark) (t : TyT) → IsValid u d t → IsValid u d (marked m t)
  marked_valid Plain t h = h
  marked_valid Attached (class_type k n ts) h = h
  marked_valid Attached (formal_type i n) h = tt
  marked_valid Attached none_type h = tt
  marked_valid Detachable (class_type k n ts) h = h
  marked_valid Detachable (formal_type i n) h = tt
  marked_valid Detachable none_type h = tt

  actual_valid : (xs : Actuals) (i : ℕ) → AreValid u d xs → IsValid u d (actual_at xs i)
  actual_valid no_actuals i h = tt
  actual_valid (and_actual x xs) zero h = h.0
  actual_valid (and_actual x xs) (suc i) h = actual_valid xs i h.1

  formals_valid : (i n : ℕ) → AreValid u d (formals_from i n)
  formals_valid i zero = tt
  formals_valid i (suc n) = (tt, formals_valid (suc i) n)

module _ (u : List ClassT) (order : List ℕ) (is : IsHierarchy u order) (defined : Defined u) where
  module _ (c d : ℕ) (xs : Actuals) (are : AreOf u (formal_count u d) xs) (valid : AreValid u d xs)
      (meet : Meet u d xs (constraints_of u c)) where
    put_meets : (ts ks : Actuals) → AreOf u (formal_count u c) ts → AreOf u 0 ks → Meet u c ts ks →
        Meet u d (put_in_all xs ts) ks
    put_meets no_actuals no_actuals a k h = tt
    put_meets (and_actual t ts) (and_actual x ks) a k h = (
      subst (λ y. conforms u d (put_in xs t) y ≡ true) (closed_put u xs x k.1)
          (substituted u order is defined c d xs are meet t x a.1 (closed_of u (formal_count u c) x k.1) h.0),
      put_meets ts ks a.2 k.2 h.1,
    )
    put_meets no_actuals (and_actual x ks) a k h = absurd h
    put_meets (and_actual t ts) no_actuals a k h = absurd h

    mutual
      pub put_valid : (t : TyT) → IsOf u (formal_count u c) t → IsValid u c t → IsValid u d (put_in xs t)
      put_valid (class_type k m ts) h v =
          (put_meets ts (constraints_of u k) h.2 (is.constraints k) v.0, put_all_valid ts h.2 v.1)
      put_valid (formal_type i m) h v = marked_valid u d m (actual_at xs i) (actual_valid u d xs i valid)
      put_valid none_type h v = tt

      pub put_all_valid : (ts : Actuals) → AreOf u (formal_count u c) ts → AreValid u c ts →
          AreValid u d (put_in_all xs ts)
      put_all_valid no_actuals h v = tt
      put_all_valid (and_actual t ts) h v = (put_valid t h.1 v.0, put_all_valid ts h.2 v.1)

  -- a class's own formals
  own_meet : (d i : ℕ) (ks : Actuals) → AreOf u 0 ks → ((j : ℕ) → constraint u d (i + j) ≡ actual_if ks j) →
      Meet u d (formals_from i (actual_count ks)) ks
  own_meet d i no_actuals a h = tt
  own_meet d i (and_actual k ks) a h = (
    here k a.0 a.1 (subst (λ j. constraint u d j ≡ Some k) (omega arith) (h 0)),
    own_meet d (suc i) ks a.2 (λ j. subst (λ n. constraint u d n ≡ actual_if ks j) (omega arith) (h (suc j))),
  )
    where
      here : (k : TyT) → IsSomething k → IsOf u 0 k → constraint u d i ≡ Some k →
          conforms u d (formal_type i Plain) k ≡ true
      here (class_type j n ys) s o e = to_class u d i Plain j n ys record {
        t = class_type j n ys;
        is = e;
        below = reflexive_at u order is d (class_type j n ys)
            (closed_of u (formal_count u d) (class_type j n ys) o) tt Plain Plain refl;
      }
      here (formal_type j n) s o e = absurd (omega arith)
      here none_type s o e = absurd s

  pub own_formals_meet : (d : ℕ) (c : ClassT) → slice_get u d ≡ Some c → Meet u d (own_formals c) (constraints_of u d)
  own_formals_meet d c at =
      subst (λ n. Meet u d (formals_from 0 n) (constraints_of u d))
      (constraint_count u d ∙ count_is u order is d c at)
      (own_meet d 0 (constraints_of u d) (is.constraints d)
      (λ j. ap (constraint u d) (omega arith) ∙ constraint_is u d j))

  module _ (clauses_valid : EachClause u (IsValidClause u)) where
    abbrev AreFine : ℕ → Type 0
    AreFine d =
        (k : ℕ) (xs : Actuals) → ancestor u d k ≡ Some xs → Meet u d xs (constraints_of u k) × AreValid u d xs

    are_fine : Step u order is.ordered AreFine
    are_fine d c at parents k xs h = go (d == k) refl
      where
        go : (b : Bool) → (d == k) ≡ b → Meet u d xs (constraints_of u k) × AreValid u d xs
        go true e =
            subst (λ xs. Meet u d xs (constraints_of u k) × AreValid u d xs) (sym (own_is u order is d k c xs at e h)) (
              subst (λ k. Meet u d (own_formals c) (constraints_of u k)) (eqb-true d k e) (own_formals_meet d c at),
              formals_valid u d 0 (length c.formals),
            )
        go false e =
            let v = via u order is d k c xs at e h in
            let w = v.clause in
            let g = v.each w.place w.clause w.among w.q w.names w.down in
            let m = clause_member u c (clauses c) w.place w.clause w.q w.among w.names in
            let r = parents w.q m k g.ts g.gives in
            let p = is.parents d c at w.place w.clause w.among w.q w.names in
            let q = clauses_valid d c at w.place w.clause w.among w.q w.names in
            let count = sym (count_is u order is d c at) in
            let types = subst (λ n. AreOf u n (clause_actuals u c w.clause)) count p.types in
            let o = ancestor_of u order is w.q k g.ts g.gives in
            subst (λ xs. Meet u d xs (constraints_of u k) × AreValid u d xs) g.puts (
              put_meets w.q d (clause_actuals u c w.clause) types q.valid q.meet g.ts (constraints_of u k) o.0
                  (is.constraints k) r.0,
              put_all_valid w.q d (clause_actuals u c w.clause) types q.valid q.meet g.ts o.0 r.1,
            )

    pub ancestor_valid : (d k : ℕ) (xs : Actuals) → ancestor u d k ≡ Some xs →
        Meet u d xs (constraints_of u k) × AreValid u d xs
    ancestor_valid d k xs h =
        let c = ancestor_has_class u order is d k xs h in
        by_parents u order is.ordered AreFine are_fine d c.0 c.1 k xs h
