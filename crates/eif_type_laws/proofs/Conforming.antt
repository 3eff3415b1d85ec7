-- The laws of conformance.
use Rattle.std.proofs.Common.{◌≡◌, ℕ, ◌<◌, true, List, Some, refl, sym, ap, subst, ◌∙◌, arith}
use Rattle.std.proofs.lemmas.Bool.{eqb-true, eq-eqb}
use Rattle.std.specs.Prelude.{◌==◌, is_some}
use Rattle.eif_classes.specs.Conformance.{mark_conforms, conforms}
use Rattle.eif_classes.specs.Constraints.{constraint}
use Rattle.eif_classes.specs.Resolution.{own_formals}
use Rattle.eif_classes.specs.Types.{TyT, class_type, formal_type, none_type, Actuals, marked, actual_at, put_in, put_in_all, formals_from}
use Rattle.eif_lineage_laws.proofs.Unfolding.{class_within}
use Rattle.eif_rules.specs.UniverseRules.{formal_count}
use Rattle.eif_tree.specs.Tree.{ClassT}
use Rattle.eif_tree.specs.declared.tree.Mark.{Mark}
use Rattle.eif_tree.specs.declared.tree.Mark.TheVariants.{Plain, Attached, Detachable}
use Rattle.eif_type_laws.specs.ClassTypes.{IsSomething, IsOf, AreOf, constraints_of, Meet, IsHierarchy, Defined}
use Rattle.eif_type_laws.proofs.Ancestors.{own_ancestor, count_is, composes}
use Rattle.eif_type_laws.proofs.ClassConformance.{mark_self, mark_to_detachable, mark_further, above_detachable, constraint_some, constraint_closed, meets_at, meet_count, fits, opened, shut, stricter, in_class, from_detachable, both_put, by_constraint, to_class, conforms_marked}
use Rattle.eif_type_laws.proofs.SameTypes.{and_left, and_right, and_both, mark_is}
use Rattle.eif_type_laws.proofs.Substitution.{put_put_all, put_formals}
use Rattle.eif_type_laws.proofs.TypesKept.{actual_of, closed_put, marked_of}

module _ (u : List ClassT) (order : List ℕ) (is : IsHierarchy u order) where
  -- ---- a type and itself

  class_self : (d k : ℕ) (m n : Mark) (ts : Actuals) → IsOf u d (class_type k m ts) → mark_conforms m n ≡ true →
      fits u (class_type k m ts) (class_type k n ts) ≡ true
  class_self d k m n ts h g =
      let c = class_within u k h.0 in
      shut u k m ts k n ts record {
        marks = g;
        ts = own_formals c.0;
        gives = own_ancestor u order is k c.0 c.1;
        puts = ap (λ n. put_in_all ts (formals_from 0 n)) (sym (h.1 ∙ count_is u order is k c.0 c.1)) ∙ put_formals ts;
      }

  formal_self : (d i : ℕ) (m n : Mark) → i < formal_count u d → mark_conforms m n ≡ true →
      conforms u d (formal_type i m) (formal_type i n) ≡ true
  formal_self d i m n h g = and_both _ _ (constraint_some u d i h) (and_both _ _ (eq-eqb i i refl) g)

  -- a type that isn't NONE conforms to itself under marks in order
  pub reflexive_at : (d : ℕ) (t : TyT) → IsOf u (formal_count u d) t → IsSomething t → (m n : Mark) →
      mark_conforms m n ≡ true → conforms u d (marked m t) (marked n t) ≡ true
  reflexive_at d (class_type k o ts) h s Plain Plain g = class_self (formal_count u d) k o o ts h (mark_self o)
  reflexive_at d (class_type k o ts) h s Plain Attached g = cc
  reflexive_at d (class_type k o ts) h s Plain Detachable g =
      class_self (formal_count u d) k o Detachable ts h (mark_to_detachable o)
  reflexive_at d (class_type k o ts) h s Attached Plain g = class_self (formal_count u d) k Attached o ts h refl
  reflexive_at d (class_type k o ts) h s Attached Attached g =
      class_self (formal_count u d) k Attached Attached ts h refl
  reflexive_at d (class_type k o ts) h s Attached Detachable g =
      class_self (formal_count u d) k Attached Detachable ts h refl
  reflexive_at d (class_type k o ts) h s Detachable Plain g = cc
  reflexive_at d (class_type k o ts) h s Detachable Attached g = cc
  reflexive_at d (class_type k o ts) h s Detachable Detachable g =
      class_self (formal_count u d) k Detachable Detachable ts h refl
  reflexive_at d (formal_type i o) h s Plain Plain g = formal_self d i o o h (mark_self o)
  reflexive_at d (formal_type i o) h s Plain Attached g = cc
  reflexive_at d (formal_type i o) h s Plain Detachable g = formal_self d i o Detachable h (mark_to_detachable o)
  reflexive_at d (formal_type i o) h s Attached Plain g = formal_self d i Attached o h refl
  reflexive_at d (formal_type i o) h s Attached Attached g = formal_self d i Attached Attached h refl
  reflexive_at d (formal_type i o) h s Attached Detachable g = formal_self d i Attached Detachable h refl
  reflexive_at d (formal_type i o) h s Detachable Plain g = cc
  reflexive_at d (formal_type i o) h s Detachable Attached g = cc
  reflexive_at d (formal_type i o) h s Detachable Detachable g = formal_self d i Detachable Detachable h refl
  reflexive_at d none_type h s m n g = absurd s

  module _ (defined : Defined u) where
    -- ---- one after the other

    class_further : (x y z : TyT) → fits u x y ≡ true → fits u y z ≡ true → fits u x z ≡ true
    class_further (class_type k m xs) (class_type j n ys) (class_type l o zs) h g =
        let a = opened u k m xs j n ys h in
        let b = opened u j n ys l o zs g in
        shut u k m xs l o zs record {
          marks = mark_further m n o a.marks b.marks;
          ts = put_in_all a.ts b.ts;
          gives = composes u order is defined k j l a.ts b.ts a.gives b.gives;
          puts = put_put_all a.ts xs b.ts ∙ (ap (λ x. put_in_all x b.ts) a.puts ∙ b.puts);
        }
    class_further (class_type k m xs) (class_type j n ys) (formal_type i o) h g = cc
    class_further (class_type k m xs) (class_type j n ys) none_type h g = cc
    class_further (class_type k m xs) (formal_type i n) z h g = cc
    class_further (class_type k m xs) none_type z h g = cc
    class_further (formal_type i m) y z h g = cc
    class_further none_type y z h g = cc

    -- between formals, of which the first has a constraint
    same_formal : (d i j : ℕ) (m n : Mark) → conforms u d (formal_type i m) (formal_type j n) ≡ true →
        (i ≡ j) × (mark_conforms m n ≡ true)
    same_formal d i j m n h =
        let r = and_right (is_some (constraint u d i)) _ h in
        (eqb-true i j (and_left _ _ r), and_right (i == j) _ r)

    pub transitive : (d : ℕ) (x y z : TyT) → conforms u d x y ≡ true → conforms u d y z ≡ true →
        conforms u d x z ≡ true
    transitive d (class_type k m xs) (class_type j n ys) z h g =
        class_further (class_type k m xs) (class_type j n ys) z h g
    transitive d (class_type k m xs) (formal_type i n) z h g = cc
    transitive d (class_type k m xs) none_type z h g = cc
    transitive d (formal_type i m) (formal_type j n) (formal_type k o) h g =
        let e = same_formal d i j m n h in
        let f = same_formal d j k n o g in
        and_both _ _ (and_left _ _ h) (and_both _ _ (eq-eqb i k (e.0 ∙ f.0)) (mark_further m n o e.1 f.1))
    transitive d (formal_type i m) (formal_type j n) (class_type l o zs) h g =
        let e = same_formal d i j m n h in
        let b = by_constraint u d j n l o zs g in
        to_class u d i m l o zs record {
          t = b.t;
          is = ap (constraint u d) e.0 ∙ b.is;
          below = stricter u m n b.t (class_type l o zs) e.1 b.below;
        }
    transitive d (formal_type i m) (formal_type j n) none_type h g = cc
    transitive d (formal_type i m) (class_type j n ys) (class_type l o zs) h g =
        let b = by_constraint u d i m j n ys h in
        to_class u d i m l o zs record {
          t = b.t;
          is = b.is;
          below = class_further (marked m b.t) (class_type j n ys) (class_type l o zs) b.below g;
        }
    transitive d (formal_type i m) (class_type j n ys) (formal_type k o) h g = cc
    transitive d (formal_type i m) (class_type j n ys) none_type h g = cc
    transitive d (formal_type i m) none_type z h g = cc
    transitive d none_type (class_type j n ys) (class_type l o zs) h g =
        above_detachable n o h (opened u j n ys l o zs g).marks
    transitive d none_type (class_type j n ys) (formal_type k o) h g = cc
    transitive d none_type (class_type j n ys) none_type h g = cc
    transitive d none_type (formal_type j n) (formal_type k o) h g =
        let f = same_formal d j k n o g in
        and_both _ _ (ap (λ i. is_some (constraint u d i)) (sym f.0) ∙ and_left _ _ h)
        (above_detachable n o (and_right (is_some (constraint u d j)) _ h) f.1)
    transitive d none_type (formal_type j n) (class_type l o zs) h g =
        let b = by_constraint u d j n l o zs g in
        let e = mark_is n Detachable (and_right (is_some (constraint u d j)) _ h) in
        from_detachable u b.t l o zs (subst (λ m. fits u (marked m b.t) (class_type l o zs) ≡ true) e b.below)
    transitive d none_type (formal_type j n) none_type h g = cc
    transitive d none_type none_type z h g = cc

    -- ---- substitution

    module _ (c d : ℕ) (xs : Actuals) (are : AreOf u (formal_count u d) xs)
        (meet : Meet u d xs (constraints_of u c)) where
      actual_is : (i : ℕ) → i < formal_count u c →
          IsSomething (actual_at xs i) × IsOf u (formal_count u d) (actual_at xs i)
      actual_is i h = actual_of u (formal_count u d) xs i are (let n = meet_count u c d xs meet in omega arith)

      -- a formal that conforms to a class type
      put_formal : (i : ℕ) (m : Mark) → i < formal_count u c → (j : ℕ) (n : Mark) (ys : Actuals) (t : TyT) →
          constraint u c i ≡ Some t → fits u (marked m t) (class_type j n ys) ≡ true →
          conforms u d (marked m (actual_at xs i)) (class_type j n (put_in_all xs ys)) ≡ true
      put_formal i m lt j n ys (class_type k o ts) e h =
          let s = constraint_closed u c i (class_type k o ts) (is.constraints c) e in
          let p = meets_at u c d xs i (class_type k o ts) meet e in
          let q = conforms_marked u d m (actual_at xs i) k o ts (actual_is i lt).0 p in
          let closed = closed_put u xs (marked m (class_type k o ts)) (marked_of u 0 m (class_type k o ts) s.1) in
          let r = both_put u xs (marked m (class_type k o ts)) (class_type j n ys) h in
          transitive d (marked m (actual_at xs i)) (marked m (class_type k o ts)) (class_type j n (put_in_all xs ys)) q
          (in_class u d _ _ (subst (λ t. fits u t (class_type j n (put_in_all xs ys)) ≡ true) closed r))
      put_formal i m lt j n ys (formal_type k o) e h =
          let f : k < 0 = (constraint_closed u c i (formal_type k o) (is.constraints c) e).1 in absurd (omega arith)
      put_formal i m lt j n ys none_type e h = absurd (constraint_closed u c i none_type (is.constraints c) e).0

      void_fits : (t : TyT) → IsSomething t → IsOf u (formal_count u d) t →
          conforms u d none_type (marked Detachable t) ≡ true
      void_fits (class_type k m ts) s h = refl
      void_fits (formal_type i m) s h = and_both _ _ (constraint_some u d i h) refl
      void_fits none_type s h = absurd s

      pub substituted : (x y : TyT) → IsOf u (formal_count u c) x → IsOf u (formal_count u c) y →
          conforms u c x y ≡ true → conforms u d (put_in xs x) (put_in xs y) ≡ true
      substituted (class_type k m zs) (class_type j n ys) p q h =
          both_put u xs (class_type k m zs) (class_type j n ys) h
      substituted (class_type k m zs) (formal_type i n) p q h = cc
      substituted (class_type k m zs) none_type p q h = cc
      substituted (formal_type i m) (formal_type j n) p q h =
          let e = same_formal c i j m n h in
          let s = actual_is i p in
          subst (λ k. conforms u d (marked m (actual_at xs i)) (marked n (actual_at xs k)) ≡ true) e.0
          (reflexive_at d (actual_at xs i) s.1 s.0 m n e.1)
      substituted (formal_type i m) (class_type j n ys) p q h =
          let b = by_constraint u c i m j n ys h in put_formal i m p j n ys b.t b.is b.below
      substituted (formal_type i m) none_type p q h = cc
      substituted none_type (class_type j n ys) p q h = h
      substituted none_type (formal_type j n) p q h =
          let s = actual_is j q in
          let e = mark_is n Detachable (and_right (is_some (constraint u c j)) _ h) in
          subst (λ m. conforms u d none_type (marked m (actual_at xs j)) ≡ true) (sym e)
          (void_fits (actual_at xs j) s.0 s.1)
      substituted none_type none_type p q h = cc
