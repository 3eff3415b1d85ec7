-- Conformance of class types, and of formals by their constraints.
use Rattle.std.proofs.Common.{◌≡◌, ℕ, zero, suc, ◌<◌, Bool, true, false, List, [], ◌∷◌, length, Option, Some, None, refl, sym, ap, subst, ◌∙◌, arith}
use Rattle.std.specs.Option.{option_map, option_map_or}
use Rattle.std.specs.Prelude.{slice_get, is_some}
use Rattle.eif_classes.specs.Ancestry.{ancestor}
use Rattle.eif_classes.specs.Conformance.{mark_conforms, gives, class_conforms, conforms}
use Rattle.eif_classes.specs.Constraints.{formal_constraint, constraint}
use Rattle.eif_classes.specs.Types.{TyT, class_type, formal_type, none_type, Actuals, no_actuals, and_actual, same_mark, marked, actual_at, put_in, put_in_all, same_actuals}
use Rattle.eif_rules.specs.UniverseRules.{formal_count}
use Rattle.eif_tree.specs.Tree.{FormalT, ClassT}
use Rattle.eif_tree.specs.declared.tree.Mark.{Mark}
use Rattle.eif_tree.specs.declared.tree.Mark.TheVariants.{Plain, Attached, Detachable}
use Rattle.eif_type_laws.specs.ClassTypes.{IsSomething, actual_count, IsOf, AreOf, constraints_by, constraints_of, Meet}
use Rattle.eif_type_laws.proofs.SameTypes.{and_left, and_right, and_both, same_actuals_are, are_same_actuals}
use Rattle.eif_type_laws.proofs.Substitution.{attached_last, detachable_last, put_put_all}

-- ---- marks

pub mark_self : (m : Mark) → mark_conforms m m ≡ true
mark_self Plain = refl
mark_self Attached = refl
mark_self Detachable = refl

pub mark_to_detachable : (m : Mark) → mark_conforms m Detachable ≡ true
mark_to_detachable Plain = refl
mark_to_detachable Attached = refl
mark_to_detachable Detachable = refl

pub mark_further : (m n o : Mark) → mark_conforms m n ≡ true → mark_conforms n o ≡ true → mark_conforms m o ≡ true
mark_further Attached n o h g = refl
mark_further Plain Attached o h g = cc
mark_further Plain Plain o h g = g
mark_further Plain Detachable Detachable h g = refl
mark_further Plain Detachable Plain h g = cc
mark_further Plain Detachable Attached h g = cc
mark_further Detachable Detachable o h g = g
mark_further Detachable Plain o h g = cc
mark_further Detachable Attached o h g = cc

pub above_detachable : (m n : Mark) → same_mark m Detachable ≡ true → mark_conforms m n ≡ true →
    same_mark n Detachable ≡ true
above_detachable Detachable Detachable h g = refl
above_detachable Detachable Plain h g = cc
above_detachable Detachable Attached h g = cc
above_detachable Plain n h g = cc
above_detachable Attached n h g = cc

-- ---- constraints

-- the actual in that place, if there is one
abbrev pub actual_if : Actuals → ℕ → Option TyT
actual_if no_actuals i = None
actual_if (and_actual t ts) zero = Some t
actual_if (and_actual t ts) (suc i) = actual_if ts i

module _ (u : List ClassT) where
  constraint_by : (c : ClassT) (fs : List FormalT) (i : ℕ) →
      option_map (formal_constraint u c) (slice_get fs i) ≡ actual_if (constraints_by u c fs) i
  constraint_by c [] i = refl
  constraint_by c (f ∷ fs) zero = refl
  constraint_by c (f ∷ fs) (suc i) = constraint_by c fs i

  count_by : (c : ClassT) (fs : List FormalT) → actual_count (constraints_by u c fs) ≡ length fs
  count_by c [] = refl
  count_by c (f ∷ fs) = ap suc (count_by c fs)

  -- a class has a constraint for each formal
  pub constraint_is : (d i : ℕ) → constraint u d i ≡ actual_if (constraints_of u d) i
  constraint_is d i = go (slice_get u d) refl
    where
      go : (o : Option ClassT) → slice_get u d ≡ o → constraint u d i ≡ actual_if (constraints_of u d) i
      go None e = rw e refl
      go (Some c) e = rw e (constraint_by c c.formals i)

  pub constraint_count : (d : ℕ) → actual_count (constraints_of u d) ≡ formal_count u d
  constraint_count d = go (slice_get u d) refl
    where
      go : (o : Option ClassT) → slice_get u d ≡ o → actual_count (constraints_of u d) ≡ formal_count u d
      go None e = rw e refl
      go (Some c) e = rw e (count_by c c.formals)

  actual_within : (ts : Actuals) (i : ℕ) → i < actual_count ts → (t : TyT) × (actual_if ts i ≡ Some t)
  actual_within no_actuals i h = absurd (omega arith)
  actual_within (and_actual t ts) zero h = (t, refl)
  actual_within (and_actual t ts) (suc i) h = actual_within ts i (omega arith)

  pub has_constraint : (d i : ℕ) → i < formal_count u d → (t : TyT) × (constraint u d i ≡ Some t)
  has_constraint d i h =
      let n = constraint_count d in
      let t = actual_within (constraints_of u d) i (omega arith) in
      (t.0, constraint_is d i ∙ t.1)

  pub constraint_some : (d i : ℕ) → i < formal_count u d → is_some (constraint u d i) ≡ true
  constraint_some d i h = let t = has_constraint d i h in ap is_some t.1

  closed_at : (ts : Actuals) (i : ℕ) (t : TyT) → AreOf u 0 ts → actual_if ts i ≡ Some t → IsSomething t × IsOf u 0 t
  closed_at no_actuals i t h e = cc
  closed_at (and_actual x ts) zero t h e =
      let q : x ≡ t = cc in subst (λ t. IsSomething t × IsOf u 0 t) q (h.0, h.1)
  closed_at (and_actual x ts) (suc i) t h e = closed_at ts i t h.2 e

  pub constraint_closed : (d i : ℕ) (t : TyT) → AreOf u 0 (constraints_of u d) → constraint u d i ≡ Some t →
      IsSomething t × IsOf u 0 t
  constraint_closed d i t closed e = closed_at (constraints_of u d) i t closed (sym (constraint_is d i) ∙ e)

  meets_by : (d : ℕ) (xs cs : Actuals) (i : ℕ) (t : TyT) → Meet u d xs cs → actual_if cs i ≡ Some t →
      conforms u d (actual_at xs i) t ≡ true
  meets_by d no_actuals no_actuals i t h e = cc
  meets_by d (and_actual x xs) (and_actual c cs) zero t h e =
      let q : c ≡ t = cc in subst (λ t. conforms u d x t ≡ true) q h.0
  meets_by d (and_actual x xs) (and_actual c cs) (suc i) t h e = meets_by d xs cs i t h.1 e
  meets_by d no_actuals (and_actual c cs) i t h e = absurd h
  meets_by d (and_actual x xs) no_actuals i t h e = absurd h

  -- actuals that meet the constraints of the class c
  pub meets_at : (c d : ℕ) (xs : Actuals) (i : ℕ) (t : TyT) → Meet u d xs (constraints_of u c) →
      constraint u c i ≡ Some t → conforms u d (actual_at xs i) t ≡ true
  meets_at c d xs i t h e = meets_by d xs (constraints_of u c) i t h (sym (constraint_is c i) ∙ e)

  meet_counts : (d : ℕ) (xs cs : Actuals) → Meet u d xs cs → actual_count xs ≡ actual_count cs
  meet_counts d no_actuals no_actuals h = refl
  meet_counts d (and_actual x xs) (and_actual c cs) h = ap suc (meet_counts d xs cs h.1)
  meet_counts d no_actuals (and_actual c cs) h = absurd h
  meet_counts d (and_actual x xs) no_actuals h = absurd h

  pub meet_count : (c d : ℕ) (xs : Actuals) → Meet u d xs (constraints_of u c) → actual_count xs ≡ formal_count u c
  meet_count c d xs h = meet_counts d xs (constraints_of u c) h ∙ constraint_count c

  -- ---- class types

  abbrev pub fits : TyT → TyT → Bool
  fits a b = class_conforms (ancestor u) a b

  -- what their conformance says
  pub record IsBelow (k : ℕ) (m : Mark) (xs : Actuals) (j : ℕ) (n : Mark) (ys : Actuals) : Type 0 where
    pub marks : mark_conforms m n ≡ true
    pub ts : Actuals
    pub gives : ancestor u k j ≡ Some ts
    pub puts : put_in_all xs ts ≡ ys

  given : (o : Option Actuals) (xs ys : Actuals) → gives o xs ys ≡ true →
      (ts : Actuals) × (o ≡ Some ts) × (put_in_all xs ts ≡ ys)
  given None xs ys h = cc
  given (Some ts) xs ys h = (ts, refl, same_actuals_are _ _ h)

  pub opened : (k : ℕ) (m : Mark) (xs : Actuals) (j : ℕ) (n : Mark) (ys : Actuals) →
      fits (class_type k m xs) (class_type j n ys) ≡ true → IsBelow k m xs j n ys
  opened k m xs j n ys h =
      let g = given (ancestor u k j) xs ys (and_right (mark_conforms m n) _ h) in
      record { marks = and_left _ _ h; ts = g.0; gives = g.1; puts = g.2 }

  pub shut : (k : ℕ) (m : Mark) (xs : Actuals) (j : ℕ) (n : Mark) (ys : Actuals) → IsBelow k m xs j n ys →
      fits (class_type k m xs) (class_type j n ys) ≡ true
  shut k m xs j n ys i =
      and_both _ _ i.marks
      (ap (λ o. gives o xs ys) i.gives ∙ (ap (λ t. same_actuals t ys) i.puts ∙ are_same_actuals ys))

  -- the same under other marks
  pub remarked : (k : ℕ) (m : Mark) (xs : Actuals) (j : ℕ) (n : Mark) (ys : Actuals) (m' n' : Mark) →
      mark_conforms m' n' ≡ true → fits (class_type k m xs) (class_type j n ys) ≡ true →
      fits (class_type k m' xs) (class_type j n' ys) ≡ true
  remarked k m xs j n ys m' n' g h =
      let i = opened k m xs j n ys h in
      shut k m' xs j n' ys record { marks = g; ts = i.ts; gives = i.gives; puts = i.puts }

  -- the same mark put on both
  pub both_marked : (k : Mark) (a b : TyT) → fits a b ≡ true → fits (marked k a) (marked k b) ≡ true
  both_marked Plain a b h = h
  both_marked Attached (class_type k m xs) (class_type j n ys) h = remarked k m xs j n ys Attached Attached refl h
  both_marked Detachable (class_type k m xs) (class_type j n ys) h =
      remarked k m xs j n ys Detachable Detachable refl h
  both_marked Attached (class_type k m xs) (formal_type i n) h = cc
  both_marked Attached (class_type k m xs) none_type h = cc
  both_marked Attached (formal_type i m) b h = cc
  both_marked Attached none_type b h = cc
  both_marked Detachable (class_type k m xs) (formal_type i n) h = cc
  both_marked Detachable (class_type k m xs) none_type h = cc
  both_marked Detachable (formal_type i m) b h = cc
  both_marked Detachable none_type b h = cc

  -- a stricter mark on the left
  pub stricter : (m n : Mark) (t b : TyT) → mark_conforms m n ≡ true → fits (marked n t) b ≡ true →
      fits (marked m t) b ≡ true
  stricter Attached Attached t b h g = g
  stricter Plain Plain t b h g = g
  stricter Detachable Detachable t b h g = g
  stricter Attached Plain (class_type k o xs) (class_type j n ys) h g = remarked k o xs j n ys Attached n refl g
  stricter Attached Plain (class_type k o xs) (formal_type i n) h g = cc
  stricter Attached Plain (class_type k o xs) none_type h g = cc
  stricter Attached Plain (formal_type i k) b h g = cc
  stricter Attached Plain none_type b h g = cc
  stricter Attached Detachable (class_type k o xs) (class_type j n ys) h g =
      remarked k Detachable xs j n ys Attached n refl g
  stricter Attached Detachable (class_type k o xs) (formal_type i n) h g = cc
  stricter Attached Detachable (class_type k o xs) none_type h g = cc
  stricter Attached Detachable (formal_type i k) b h g = cc
  stricter Attached Detachable none_type b h g = cc
  stricter Plain Detachable (class_type k o xs) (class_type j Detachable ys) h g =
      remarked k Detachable xs j Detachable ys o Detachable (mark_to_detachable o) g
  stricter Plain Detachable (class_type k o xs) (class_type j Plain ys) h g = cc
  stricter Plain Detachable (class_type k o xs) (class_type j Attached ys) h g = cc
  stricter Plain Detachable (class_type k o xs) (formal_type i n) h g = cc
  stricter Plain Detachable (class_type k o xs) none_type h g = cc
  stricter Plain Detachable (formal_type i k) b h g = cc
  stricter Plain Detachable none_type b h g = cc
  stricter Plain Attached t b h g = cc
  stricter Detachable Plain t b h g = cc
  stricter Detachable Attached t b h g = cc

  -- nothing but class types conforms so
  pub never_none : (a : TyT) → fits a none_type ≡ true → ⊥
  never_none (class_type k m xs) h = let z : false ≡ true = h in cc
  never_none (formal_type i m) h = let z : false ≡ true = h in cc
  never_none none_type h = let z : false ≡ true = h in cc

  pub never_formal : (a : TyT) (i : ℕ) (m : Mark) → fits a (formal_type i m) ≡ true → ⊥
  never_formal (class_type k m xs) j n h = let z : false ≡ true = h in cc
  never_formal (formal_type i m) j n h = let z : false ≡ true = h in cc
  never_formal none_type j n h = let z : false ≡ true = h in cc

  pub in_class : (d : ℕ) (a b : TyT) → fits a b ≡ true → conforms u d a b ≡ true
  in_class d (class_type k m xs) b h = h
  in_class d (formal_type i m) b h = cc
  in_class d none_type b h = cc

  -- what a detachable type conforms to is detachable
  pub from_detachable : (t : TyT) (j : ℕ) (n : Mark) (ys : Actuals) →
      fits (marked Detachable t) (class_type j n ys) ≡ true → same_mark n Detachable ≡ true
  from_detachable (class_type k m xs) j n ys h =
      above_detachable Detachable n refl (opened k Detachable xs j n ys h).marks
  from_detachable (formal_type i m) j n ys h = cc
  from_detachable none_type j n ys h = cc

  -- actuals put in on both sides
  pub both_put : (zs : Actuals) (a b : TyT) → fits a b ≡ true → fits (put_in zs a) (put_in zs b) ≡ true
  both_put zs (class_type k m xs) (class_type j n ys) h =
      let i = opened k m xs j n ys h in
      shut k m (put_in_all zs xs) j n (put_in_all zs ys) record {
        marks = i.marks;
        ts = i.ts;
        gives = i.gives;
        puts = sym (put_put_all xs zs i.ts) ∙ ap (put_in_all zs) i.puts;
      }
  both_put zs (class_type k m xs) (formal_type i n) h = cc
  both_put zs (class_type k m xs) none_type h = cc
  both_put zs (formal_type i m) b h = cc
  both_put zs none_type b h = cc

  -- ---- a formal by its constraint

  -- the constraint with the formal's mark conforms
  pub record IsByConstraint (d i : ℕ) (m : Mark) (b : TyT) : Type 0 where
    pub t : TyT
    pub is : constraint u d i ≡ Some t
    pub below : fits (marked m t) b ≡ true

  pub by_constraint : (d i : ℕ) (m : Mark) (j : ℕ) (n : Mark) (ys : Actuals) →
      conforms u d (formal_type i m) (class_type j n ys) ≡ true → IsByConstraint d i m (class_type j n ys)
  by_constraint d i m j n ys h = go (constraint u d i) refl h
    where
      go : (o : Option TyT) → constraint u d i ≡ o →
          option_map_or (λ t. fits (marked m t) (class_type j n ys)) o false ≡ true →
          IsByConstraint d i m (class_type j n ys)
      go None e h = cc
      go (Some t) e h = record { t = t; is = e; below = h }

  pub to_class : (d i : ℕ) (m : Mark) (j : ℕ) (n : Mark) (ys : Actuals) → IsByConstraint d i m (class_type j n ys) →
      conforms u d (formal_type i m) (class_type j n ys) ≡ true
  to_class d i m j n ys b = ap (λ o. option_map_or (λ t. fits (marked m t) (class_type j n ys)) o false) b.is ∙ b.below

  -- the same mark put on a type and on the class type that it conforms to
  pub conforms_marked : (d : ℕ) (k : Mark) (a : TyT) (j : ℕ) (n : Mark) (ys : Actuals) → IsSomething a →
      conforms u d a (class_type j n ys) ≡ true → conforms u d (marked k a) (marked k (class_type j n ys)) ≡ true
  conforms_marked d k (class_type l m xs) j n ys s h =
      in_class d _ _ (both_marked k (class_type l m xs) (class_type j n ys) h)
  conforms_marked d Plain (formal_type i m) j n ys s h = h
  conforms_marked d Attached (formal_type i m) j n ys s h =
      let b = by_constraint d i m j n ys h in
      to_class d i Attached j Attached ys record {
        t = b.t;
        is = b.is;
        below = subst (λ t. fits t (class_type j Attached ys) ≡ true) (attached_last m b.t)
            (both_marked Attached (marked m b.t) (class_type j n ys) b.below);
      }
  conforms_marked d Detachable (formal_type i m) j n ys s h =
      let b = by_constraint d i m j n ys h in
      to_class d i Detachable j Detachable ys record {
        t = b.t;
        is = b.is;
        below = subst (λ t. fits t (class_type j Detachable ys) ≡ true) (detachable_last m b.t)
            (both_marked Detachable (marked m b.t) (class_type j n ys) b.below);
      }
  conforms_marked d k none_type j n ys s h = absurd s
