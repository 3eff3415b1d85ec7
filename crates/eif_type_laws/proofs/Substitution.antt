-- Substitution.
use Rattle.std.proofs.Common.{◌≡◌, ℕ, zero, suc, ◌+◌, ◌<◌, List, refl, sym, ap, subst, ◌∙◌, arith}
use Rattle.eif_classes.specs.Types.{TyT, class_type, formal_type, none_type, Actuals, no_actuals, and_actual, marked, actual_at, put_in, put_in_all, formals_from}
use Rattle.eif_tree.specs.Tree.{ClassT}
use Rattle.eif_tree.specs.declared.tree.Mark.{Mark}
use Rattle.eif_tree.specs.declared.tree.Mark.TheVariants.{Plain, Attached, Detachable}
use Rattle.eif_type_laws.specs.ClassTypes.{actual_count, IsOf, AreOf}

-- ---- marks put on one after the other

pub attached_last : (n : Mark) (t : TyT) → marked Attached (marked n t) ≡ marked Attached t
attached_last Plain t = refl
attached_last Attached (class_type k m ts) = refl
attached_last Attached (formal_type i m) = refl
attached_last Attached none_type = refl
attached_last Detachable (class_type k m ts) = refl
attached_last Detachable (formal_type i m) = refl
attached_last Detachable none_type = refl

pub detachable_last : (n : Mark) (t : TyT) → marked Detachable (marked n t) ≡ marked Detachable t
detachable_last Plain t = refl
detachable_last Attached (class_type k m ts) = refl
detachable_last Attached (formal_type i m) = refl
detachable_last Attached none_type = refl
detachable_last Detachable (class_type k m ts) = refl
detachable_last Detachable (formal_type i m) = refl
detachable_last Detachable none_type = refl

-- ---- one substitution after the other

put_in_marked : (ys : Actuals) (m : Mark) (t : TyT) → put_in ys (marked m t) ≡ marked m (put_in ys t)
put_in_marked ys Plain t = refl
put_in_marked ys Attached (class_type k m ts) = refl
put_in_marked ys Attached (formal_type i m) = sym (attached_last m (actual_at ys i))
put_in_marked ys Attached none_type = refl
put_in_marked ys Detachable (class_type k m ts) = refl
put_in_marked ys Detachable (formal_type i m) = sym (detachable_last m (actual_at ys i))
put_in_marked ys Detachable none_type = refl

actual_put : (ys xs : Actuals) (i : ℕ) → actual_at (put_in_all ys xs) i ≡ put_in ys (actual_at xs i)
actual_put ys no_actuals i = refl
actual_put ys (and_actual x xs) zero = refl
actual_put ys (and_actual x xs) (suc i) = actual_put ys xs i

mutual
  pub put_put : (xs ys : Actuals) (t : TyT) → put_in ys (put_in xs t) ≡ put_in (put_in_all ys xs) t
  put_put xs ys (class_type k m ts) = ap (class_type k m) (put_put_all xs ys ts)
  put_put xs ys (formal_type i m) = put_in_marked ys m (actual_at xs i) ∙ ap (marked m) (sym (actual_put ys xs i))
  put_put xs ys none_type = refl

  pub put_put_all : (xs ys ts : Actuals) →
      put_in_all ys (put_in_all xs ts) ≡ put_in_all (put_in_all ys xs) ts
  put_put_all xs ys no_actuals = refl
  put_put_all xs ys (and_actual t ts) =
      ap (λ t. and_actual t (put_in_all ys (put_in_all xs ts))) (put_put xs ys t)
      ∙ ap (and_actual (put_in (put_in_all ys xs) t)) (put_put_all xs ys ts)

pub count_put : (xs ts : Actuals) → actual_count (put_in_all xs ts) ≡ actual_count ts
count_put xs no_actuals = refl
count_put xs (and_actual t ts) = ap suc (count_put xs ts)

pub count_formals : (i n : ℕ) → actual_count (formals_from i n) ≡ n
count_formals i zero = refl
count_formals i (suc n) = ap suc (count_formals (suc i) n)

-- ---- a class's own formals

-- actuals put in place of all formals
put_from : (xs rest : Actuals) (i : ℕ) → ((j : ℕ) → actual_at xs (i + j) ≡ actual_at rest j) →
    put_in_all xs (formals_from i (actual_count rest)) ≡ rest
put_from xs no_actuals i h = refl
put_from xs (and_actual t ts) i h =
    ap (λ t. and_actual t (put_in_all xs (formals_from (suc i) (actual_count ts))))
    (subst (λ k. actual_at xs k ≡ t) (omega arith) (h 0))
    ∙ ap (and_actual t)
    (put_from xs ts (suc i) (λ j. subst (λ k. actual_at xs k ≡ actual_at ts j) (omega arith) (h (suc j))))

pub put_formals : (xs : Actuals) → put_in_all xs (formals_from 0 (actual_count xs)) ≡ xs
put_formals xs = put_from xs xs 0 (λ j. ap (actual_at xs) (omega arith))

actual_formals : (s n i : ℕ) → i < n → actual_at (formals_from s n) i ≡ formal_type (s + i) Plain
actual_formals s zero i h = absurd (omega arith)
actual_formals s (suc n) zero h = ap (λ k. formal_type k Plain) (omega arith)
actual_formals s (suc n) (suc i) h =
    actual_formals (suc s) n i (omega arith) ∙ ap (λ k. formal_type k Plain) (omega arith)

mutual
  -- formals put in their own places
  formals_put : (u : List ClassT) (n : ℕ) (t : TyT) → IsOf u n t → put_in (formals_from 0 n) t ≡ t
  formals_put u n (class_type k m ts) h = ap (class_type k m) (formals_put_all u n ts h.2)
  formals_put u n (formal_type i m) h =
      ap (marked m) (actual_formals 0 n i h ∙ ap (λ k. formal_type k Plain) (omega arith)) ∙ plain m
    where
      plain : (m : Mark) → marked m (formal_type i Plain) ≡ formal_type i m
      plain Plain = refl
      plain Attached = refl
      plain Detachable = refl
  formals_put u n none_type h = refl

  pub formals_put_all : (u : List ClassT) (n : ℕ) (ts : Actuals) → AreOf u n ts →
      put_in_all (formals_from 0 n) ts ≡ ts
  formals_put_all u n no_actuals h = refl
  formals_put_all u n (and_actual t ts) h =
      ap (λ t. and_actual t (put_in_all (formals_from 0 n) ts)) (formals_put u n t h.1)
      ∙ ap (and_actual t) (formals_put_all u n ts h.2)
