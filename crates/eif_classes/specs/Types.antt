-- Types, their forms, and substitution.
use Rattle.std.specs.Prelude.{ℕ, zero, suc, ◌+◌, ◌==◌, Bool, true, false, ◌&&◌, ◌||◌}
use Rattle.eif_tree.specs.declared.tree.Mark.{Mark}
use Rattle.eif_tree.specs.declared.tree.Mark.TheVariants.{Plain, Attached, Detachable}
use Rattle.eif_classes.specs.KernelNumbers.{is_basic}

mutual
  pub data TyT : Type 0 where
    -- the number of the class, the mark, which is never plain, the actuals
    class_type : ℕ → Mark → Actuals → TyT
    -- the place among the formals of the class in which the type stands, from 0, the mark
    formal_type : ℕ → Mark → TyT
    -- NONE, the type of Void
    none_type : TyT

  pub data Actuals : Type 0 where
    no_actuals : Actuals
    and_actual : TyT → Actuals → Actuals

abbrev mutual
  -- how many class names and formals a type has
  pub name_count : TyT → ℕ
  name_count (class_type k m ts) = suc (name_count_in ts)
  name_count (formal_type i m) = 1
  name_count none_type = 0

  -- of all actuals
  pub name_count_in : Actuals → ℕ
  name_count_in no_actuals = 0
  name_count_in (and_actual t ts) = name_count t + name_count_in ts

-- ---- marks

-- equal marks
abbrev pub same_mark : Mark → Mark → Bool
same_mark Plain Plain = true
same_mark Attached Attached = true
same_mark Detachable Detachable = true
same_mark _ _ = false

-- the type with that mark; a plain mark leaves it as it is, and NONE has none
abbrev pub marked : Mark → TyT → TyT
marked Plain t = t
marked Attached (class_type k m ts) = class_type k Attached ts
marked Attached (formal_type i m) = formal_type i Attached
marked Attached none_type = none_type
marked Detachable (class_type k m ts) = class_type k Detachable ts
marked Detachable (formal_type i m) = formal_type i Detachable
marked Detachable none_type = none_type

-- the attached form of a type
abbrev pub attached_form : TyT → TyT
attached_form t = marked Attached t

-- the detachable form of a type
abbrev pub detachable_form : TyT → TyT
detachable_form t = marked Detachable t

-- ---- substitution

-- the actual in that place; NONE past the end
abbrev pub actual_at : Actuals → ℕ → TyT
actual_at no_actuals i = none_type
actual_at (and_actual t ts) zero = t
actual_at (and_actual t ts) (suc i) = actual_at ts i

abbrev mutual
  -- the type with the actuals in place of the formals, each with the mark of its formal
  pub put_in : Actuals → TyT → TyT
  put_in xs (class_type k m ts) = class_type k m (put_in_all xs ts)
  put_in xs (formal_type i m) = marked m (actual_at xs i)
  put_in xs none_type = none_type

  -- in each of some actuals
  pub put_in_all : Actuals → Actuals → Actuals
  put_in_all xs no_actuals = no_actuals
  put_in_all xs (and_actual t ts) = and_actual (put_in xs t) (put_in_all xs ts)

-- so many formals from that place on, plain
abbrev pub formals_from : ℕ → ℕ → Actuals
formals_from i zero = no_actuals
formals_from i (suc n) = and_actual (formal_type i Plain) (formals_from (suc i) n)

-- ---- equality

abbrev mutual
  -- equal class, mark and actuals, or equal place and mark
  pub same_type : TyT → TyT → Bool
  same_type (class_type k m xs) (class_type j n ys) = (k == j) && (same_mark m n && same_actuals xs ys)
  same_type (formal_type i m) (formal_type j n) = (i == j) && same_mark m n
  same_type none_type none_type = true
  same_type _ _ = false

  -- as many, and equal in their order
  pub same_actuals : Actuals → Actuals → Bool
  same_actuals no_actuals no_actuals = true
  same_actuals (and_actual x xs) (and_actual y ys) = same_type x y && same_actuals xs ys
  same_actuals _ _ = false

-- ---- values at the start

-- INTEGER, BOOLEAN or CHARACTER, which have no actuals
abbrev pub is_basic_type : ℕ → Actuals → Bool
is_basic_type k no_actuals = is_basic k
is_basic_type k _ = false

-- an entity of the type has a value from the start: its mark is detachable, or it is basic
abbrev pub is_self_initialising : TyT → Bool
is_self_initialising (class_type k m ts) = same_mark m Detachable || is_basic_type k ts
is_self_initialising (formal_type i m) = same_mark m Detachable
is_self_initialising none_type = false
