-- What is attached stays attached.
use Rattle.std.proofs.Common.{◌≡◌, ℕ, true, false, List, Option, Some, None, refl, sym, ap, subst, ◌∙◌, arith}
use Rattle.std.proofs.lemmas.Bool.{eqb-true}
use Rattle.std.specs.Option.{option_map_or}
use Rattle.std.specs.Prelude.{◌==◌, is_some}
use Rattle.eif_classes.specs.Conformance.{mark_conforms, conforms}
use Rattle.eif_classes.specs.Constraints.{constraint, is_attached, is_attached_class}
use Rattle.eif_classes.specs.Types.{TyT, class_type, formal_type, none_type, Actuals, same_mark, marked, actual_at, put_in}
use Rattle.eif_rules.specs.UniverseRules.{formal_count}
use Rattle.eif_tree.specs.Tree.{ClassT}
use Rattle.eif_tree.specs.declared.tree.Mark.{Mark}
use Rattle.eif_tree.specs.declared.tree.Mark.TheVariants.{Plain, Attached, Detachable}
use Rattle.eif_type_laws.specs.ClassTypes.{IsSomething, IsOf, AreOf, constraints_of, Meet}
use Rattle.eif_type_laws.proofs.ClassConformance.{fits, opened, by_constraint, meets_at, meet_count}
use Rattle.eif_type_laws.proofs.SameTypes.{and_left, and_right}
use Rattle.eif_type_laws.proofs.TypesKept.{actual_of}

below_attached : (m n : Mark) → mark_conforms m n ≡ true → same_mark n Attached ≡ true → same_mark m Attached ≡ true
below_attached Attached n h g = refl
below_attached Plain Attached h g = cc
below_attached Plain Plain h g = cc
below_attached Plain Detachable h g = cc
below_attached Detachable Attached h g = cc
below_attached Detachable Plain h g = cc
below_attached Detachable Detachable h g = cc

never_both : (m : Mark) → same_mark m Detachable ≡ true → same_mark m Attached ≡ true → ⊥
never_both Detachable h g = let z : false ≡ true = g in cc
never_both Plain h g = let z : false ≡ true = h in cc
never_both Attached h g = let z : false ≡ true = h in cc

module _ (u : List ClassT) (d : ℕ) where
  -- by the constraint t of a formal
  by_class : (i : ℕ) (m : Mark) (t : TyT) → constraint u d i ≡ Some t → (j : ℕ) (n : Mark) (ys : Actuals) →
      fits u (marked m t) (class_type j n ys) ≡ true → same_mark n Attached ≡ true →
      is_attached u d (formal_type i m) ≡ true
  by_class i Attached t e j n ys h g = refl
  by_class i Plain (class_type k o xs) e j n ys h g =
      ap (λ o. option_map_or is_attached_class o false) e ∙ below_attached o n (opened u k o xs j n ys h).marks g
  by_class i Plain (formal_type k o) e j n ys h g = cc
  by_class i Plain none_type e j n ys h g = cc
  by_class i Detachable (class_type k o xs) e j n ys h g =
      below_attached Detachable n (opened u k Detachable xs j n ys h).marks g
  by_class i Detachable (formal_type k o) e j n ys h g = cc
  by_class i Detachable none_type e j n ys h g = cc

  stricter_formal : (i : ℕ) (m n : Mark) → mark_conforms m n ≡ true → is_attached u d (formal_type i n) ≡ true →
      is_attached u d (formal_type i m) ≡ true
  stricter_formal i Attached n h g = refl
  stricter_formal i Plain Plain h g = g
  stricter_formal i Plain Attached h g = cc
  stricter_formal i Plain Detachable h g = cc
  stricter_formal i Detachable Detachable h g = cc
  stricter_formal i Detachable Attached h g = cc
  stricter_formal i Detachable Plain h g = cc

  never_detachable : (i : ℕ) (m : Mark) → same_mark m Detachable ≡ true → is_attached u d (formal_type i m) ≡ true → ⊥
  never_detachable i Detachable h g = let z : false ≡ true = g in cc
  never_detachable i Plain h g = let z : false ≡ true = h in cc
  never_detachable i Attached h g = let z : false ≡ true = h in cc

  pub kept : (a b : TyT) → conforms u d a b ≡ true → is_attached u d b ≡ true → is_attached u d a ≡ true
  kept (class_type k m xs) (class_type j n ys) h g = below_attached m n (opened u k m xs j n ys h).marks g
  kept (class_type k m xs) (formal_type i n) h g = cc
  kept (class_type k m xs) none_type h g = cc
  kept (formal_type i m) (formal_type j n) h g =
      let r = and_right (is_some (constraint u d i)) _ h in
      let e = eqb-true i j (and_left _ _ r) in
      stricter_formal i m n (and_right (i == j) _ r)
      (subst (λ k. is_attached u d (formal_type k n) ≡ true) (sym e) g)
  kept (formal_type i m) (class_type j n ys) h g =
      let b = by_constraint u d i m j n ys h in by_class i m b.t b.is j n ys b.below g
  kept (formal_type i m) none_type h g = cc
  kept none_type (class_type j n ys) h g = absurd (never_both n h g)
  kept none_type (formal_type i n) h g =
      absurd (never_detachable i n (and_right (is_some (constraint u d i)) _ h) g)
  kept none_type none_type h g = cc

  attached_always : (t : TyT) → IsSomething t → is_attached u d (marked Attached t) ≡ true
  attached_always (class_type k m ts) s = refl
  attached_always (formal_type i m) s = refl
  attached_always none_type s = absurd s

  module _ (c : ℕ) (xs : Actuals) (are : AreOf u (formal_count u d) xs) (meet : Meet u d xs (constraints_of u c)) where
    by_meet : (i : ℕ) (o : Option TyT) → constraint u c i ≡ o → option_map_or is_attached_class o false ≡ true →
        is_attached u d (actual_at xs i) ≡ true
    by_meet i (Some (class_type k m ts)) e g =
        kept (actual_at xs i) (class_type k m ts) (meets_at u c d xs i (class_type k m ts) meet e) g
    by_meet i (Some (formal_type j m)) e g = cc
    by_meet i (Some none_type) e g = cc
    by_meet i None e g = cc

    pub put_kept : (t : TyT) → IsOf u (formal_count u c) t → is_attached u c t ≡ true →
        is_attached u d (put_in xs t) ≡ true
    put_kept (class_type k m ts) h g = g
    put_kept (formal_type i Attached) h g =
        let n = meet_count u c d xs meet in
        attached_always (actual_at xs i) (actual_of u (formal_count u d) xs i are (omega arith)).0
    put_kept (formal_type i Plain) h g = by_meet i (constraint u c i) refl g
    put_kept (formal_type i Detachable) h g = cc
    put_kept none_type h g = cc
