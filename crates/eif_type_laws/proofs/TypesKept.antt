-- Substitution keeps types of a class.
use Rattle.std.proofs.Common.{ℕ, zero, suc, ◌+◌, ◌<◌, ◌≤◌, ◌≡◌, List, refl, ap, ◌∙◌, arith}
use Rattle.eif_classes.specs.Types.{TyT, class_type, formal_type, none_type, Actuals, no_actuals, and_actual, marked, actual_at, put_in, put_in_all, formals_from}
use Rattle.eif_tree.specs.Tree.{ClassT}
use Rattle.eif_tree.specs.declared.tree.Mark.{Mark}
use Rattle.eif_tree.specs.declared.tree.Mark.TheVariants.{Plain, Attached, Detachable}
use Rattle.eif_type_laws.specs.ClassTypes.{IsSomething, actual_count, IsOf, AreOf}
use Rattle.eif_type_laws.proofs.Substitution.{count_put}

pub marked_something : (m : Mark) (t : TyT) → IsSomething t → IsSomething (marked m t)
marked_something Plain t h = h
marked_something Attached (class_type k m ts) h = tt
marked_something Attached (formal_type i m) h = tt
marked_something Attached none_type h = h
marked_something Detachable (class_type k m ts) h = tt
marked_something Detachable (formal_type i m) h = tt
marked_something Detachable none_type h = h

pub marked_of : (u : List ClassT) (n : ℕ) (m : Mark) (t : TyT) → IsOf u n t → IsOf u n (marked m t)
marked_of u n Plain t h = h
marked_of u n Attached (class_type k m ts) h = h
marked_of u n Attached (formal_type i m) h = h
marked_of u n Attached none_type h = h
marked_of u n Detachable (class_type k m ts) h = h
marked_of u n Detachable (formal_type i m) h = h
marked_of u n Detachable none_type h = h

pub actual_of : (u : List ClassT) (n : ℕ) (xs : Actuals) (i : ℕ) → AreOf u n xs → i < actual_count xs →
    IsSomething (actual_at xs i) × IsOf u n (actual_at xs i)
actual_of u n no_actuals i h lt = absurd (omega arith)
actual_of u n (and_actual x xs) zero h lt = (h.0, h.1)
actual_of u n (and_actual x xs) (suc i) h lt = actual_of u n xs i h.2 (omega arith)

-- k formals, and actuals for them
module _ (u : List ClassT) (n k : ℕ) (xs : Actuals) (are : AreOf u n xs) (enough : k ≤ actual_count xs) where
  pub put_something : (t : TyT) → IsOf u k t → IsSomething t → IsSomething (put_in xs t)
  put_something (class_type j m ts) h s = tt
  put_something (formal_type i m) h s =
      marked_something m (actual_at xs i) (actual_of u n xs i are (omega arith)).0
  put_something none_type h s = s

  mutual
    pub put_of : (t : TyT) → IsOf u k t → IsOf u n (put_in xs t)
    put_of (class_type j m ts) h = (h.0, count_put xs ts ∙ h.1, put_all_of ts h.2)
    put_of (formal_type i m) h = marked_of u n m (actual_at xs i) (actual_of u n xs i are (omega arith)).1
    put_of none_type h = tt

    pub put_all_of : (ts : Actuals) → AreOf u k ts → AreOf u n (put_in_all xs ts)
    put_all_of no_actuals h = tt
    put_all_of (and_actual t ts) h = (put_something t h.1 h.0, put_of t h.1, put_all_of ts h.2)

pub formals_of : (u : List ClassT) (n i k : ℕ) → i + k ≤ n → AreOf u n (formals_from i k)
formals_of u n i zero h = tt
formals_of u n i (suc k) h = (tt, omega arith, formals_of u n (suc i) k (omega arith))

-- ---- types without formals

mutual
  -- they are of every class
  pub closed_of : (u : List ClassT) (n : ℕ) (t : TyT) → IsOf u 0 t → IsOf u n t
  closed_of u n (class_type k m ts) h = (h.0, h.1, all_closed_of u n ts h.2)
  closed_of u n (formal_type i m) h = absurd (omega arith)
  closed_of u n none_type h = tt

  pub all_closed_of : (u : List ClassT) (n : ℕ) (ts : Actuals) → AreOf u 0 ts → AreOf u n ts
  all_closed_of u n no_actuals h = tt
  all_closed_of u n (and_actual t ts) h = (h.0, closed_of u n t h.1, all_closed_of u n ts h.2)

mutual
  -- they stay as they are
  pub closed_put : (u : List ClassT) (xs : Actuals) (t : TyT) → IsOf u 0 t → put_in xs t ≡ t
  closed_put u xs (class_type k m ts) h = ap (class_type k m) (closed_put_all u xs ts h.2)
  closed_put u xs (formal_type i m) h = absurd (omega arith)
  closed_put u xs none_type h = refl

  closed_put_all : (u : List ClassT) (xs ts : Actuals) → AreOf u 0 ts → put_in_all xs ts ≡ ts
  closed_put_all u xs no_actuals h = refl
  closed_put_all u xs (and_actual t ts) h =
      ap (λ t. and_actual t (put_in_all xs ts)) (closed_put u xs t h.1)
      ∙ ap (and_actual t) (closed_put_all u xs ts h.2)
