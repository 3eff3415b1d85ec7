-- The tests of equal types, and of both of two.
use Rattle.std.proofs.Common.{◌≡◌, Bool, true, false, refl}
use Rattle.std.proofs.lemmas.Bool.{eqb-true, eq-eqb}
use Rattle.std.specs.Prelude.{◌&&◌, ◌==◌}
use Rattle.eif_classes.specs.Types.{TyT, class_type, formal_type, none_type, Actuals, no_actuals, and_actual, same_mark, same_type, same_actuals}
use Rattle.eif_tree.specs.declared.tree.Mark.{Mark}
use Rattle.eif_tree.specs.declared.tree.Mark.TheVariants.{Plain, Attached, Detachable}

pub and_left : (a b : Bool) → (a && b) ≡ true → a ≡ true
and_left true b h = refl
and_left false b h = cc

pub and_right : (a b : Bool) → (a && b) ≡ true → b ≡ true
and_right true b h = h
and_right false b h = cc

pub and_both : (a b : Bool) → a ≡ true → b ≡ true → (a && b) ≡ true
and_both true b h k = k
and_both false b h k = cc

pub mark_is : (m n : Mark) → same_mark m n ≡ true → m ≡ n
mark_is Plain Plain h = refl
mark_is Attached Attached h = refl
mark_is Detachable Detachable h = refl
mark_is Plain Attached h = cc
mark_is Plain Detachable h = cc
mark_is Attached Plain h = cc
mark_is Attached Detachable h = cc
mark_is Detachable Plain h = cc
mark_is Detachable Attached h = cc

is_mark : (m : Mark) → same_mark m m ≡ true
is_mark Plain = refl
is_mark Attached = refl
is_mark Detachable = refl

mutual
  same_type_is : (a b : TyT) → same_type a b ≡ true → a ≡ b
  same_type_is (class_type k m xs) (class_type j n ys) h =
      let e = eqb-true k j (and_left _ _ h) in
      let r = and_right (k == j) _ h in
      let f = mark_is m n (and_left _ _ r) in
      let g = same_actuals_are xs ys (and_right (same_mark m n) _ r) in
      cc
  same_type_is (formal_type i m) (formal_type j n) h =
      let e = eqb-true i j (and_left _ _ h) in
      let f = mark_is m n (and_right (i == j) _ h) in
      cc
  same_type_is none_type none_type h = refl
  same_type_is (class_type k m xs) (formal_type j n) h = cc
  same_type_is (class_type k m xs) none_type h = cc
  same_type_is (formal_type i m) (class_type j n ys) h = cc
  same_type_is (formal_type i m) none_type h = cc
  same_type_is none_type (class_type j n ys) h = cc
  same_type_is none_type (formal_type j n) h = cc

  pub same_actuals_are : (xs ys : Actuals) → same_actuals xs ys ≡ true → xs ≡ ys
  same_actuals_are no_actuals no_actuals h = refl
  same_actuals_are (and_actual x xs) (and_actual y ys) h =
      let e = same_type_is x y (and_left _ _ h) in
      let f = same_actuals_are xs ys (and_right (same_type x y) _ h) in
      cc
  same_actuals_are no_actuals (and_actual y ys) h = cc
  same_actuals_are (and_actual x xs) no_actuals h = cc

mutual
  is_same_type : (a : TyT) → same_type a a ≡ true
  is_same_type (class_type k m xs) =
      and_both _ _ (eq-eqb k k refl) (and_both _ _ (is_mark m) (are_same_actuals xs))
  is_same_type (formal_type i m) = and_both _ _ (eq-eqb i i refl) (is_mark m)
  is_same_type none_type = refl

  pub are_same_actuals : (xs : Actuals) → same_actuals xs xs ≡ true
  are_same_actuals no_actuals = refl
  are_same_actuals (and_actual x xs) = and_both _ _ (is_same_type x) (are_same_actuals xs)
