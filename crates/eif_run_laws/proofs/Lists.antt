-- What stands in a list behind a new item, and behind a write.
use Rattle.std.proofs.Common.{◌≡◌, ℕ, zero, suc, List, [], ◌∷◌, ◌++◌, length, Some, refl, subst}
use Rattle.std.specs.Prelude.{slice_get, slice_set, replicate}

pub some_is : {A : Type 0} {a b : A} → Some a ≡ Some b → a ≡ b
some_is e = cc

pub get_append : {A : Type 0} (xs ys : List A) (i : ℕ) (x : A) → slice_get xs i ≡ Some x
    → slice_get (xs ++ ys) i ≡ Some x
get_append [] ys i x e = cc
get_append (y ∷ xs) ys zero x e = e
get_append (y ∷ xs) ys (suc i) x e = get_append xs ys i x e

pub get_new : {A : Type 0} (xs : List A) (y : A) → slice_get (xs ++ y ∷ []) (length xs) ≡ Some y
get_new [] y = refl
get_new (x ∷ xs) y = get_new xs y

-- what stands in a list with a new item is the item or stood before
pub get_either : {A : Type 0} (P : A → Type 0) (xs : List A) (y : A) (i : ℕ) (x : A)
    → slice_get (xs ++ y ∷ []) i ≡ Some x → ((j : ℕ) → slice_get xs j ≡ Some x → P x) → P y → P x
get_either P [] y zero x e old new = let f : y ≡ x = cc in subst P f new
get_either P [] y (suc i) x e old new = cc
get_either P (z ∷ xs) y zero x e old new = old 0 e
get_either P (z ∷ xs) y (suc i) x e old new = get_either P xs y i x e (λ j h. old (suc j) h) new

-- behind a write the item at a place is the new one or stood there before
pub get_set : {A : Type 0} (P : A → Type 0) (xs : List A) (i : ℕ) (y : A) (j : ℕ) (x : A)
    → slice_get (slice_set xs i y) j ≡ Some x → (slice_get xs j ≡ Some x → P x) → P y → P x
get_set P [] i y j x e old new = cc
get_set P (z ∷ xs) zero y zero x e old new = let f : y ≡ x = cc in subst P f new
get_set P (z ∷ xs) zero y (suc j) x e old new = old e
get_set P (z ∷ xs) (suc i) y zero x e old new = old e
get_set P (z ∷ xs) (suc i) y (suc j) x e old new = get_set P xs i y j x e old new

-- what stood at a place is there, or was replaced
pub get_kept : {A : Type 0} (P : A → Type 0) (xs : List A) (i : ℕ) (x y : A) (j : ℕ) (z : A)
    → slice_get xs i ≡ Some x → slice_get xs j ≡ Some z → P z → (x ≡ z → P y)
    → (w : A) × (slice_get (slice_set xs i y) j ≡ Some w) × P w
get_kept P [] i x y j z e f h k = cc
get_kept P (a ∷ xs) zero x y zero z e f h k = let g : x ≡ z = cc in (y, refl, k g)
get_kept P (a ∷ xs) zero x y (suc j) z e f h k = (z, f, h)
get_kept P (a ∷ xs) (suc i) x y zero z e f h k = (z, f, h)
get_kept P (a ∷ xs) (suc i) x y (suc j) z e f h k = get_kept P xs i x y j z e f h k

pub get_written : {A : Type 0} (xs : List A) (i : ℕ) (x y : A) → slice_get xs i ≡ Some x
    → slice_get (slice_set xs i y) i ≡ Some y
get_written [] i x y e = cc
get_written (z ∷ xs) zero x y e = refl
get_written (z ∷ xs) (suc i) x y e = get_written xs i x y e

pub get_copy : {A : Type 0} (n : ℕ) (v : A) (i : ℕ) (w : A) → slice_get (replicate n v) i ≡ Some w → v ≡ w
get_copy zero v i w e = cc
get_copy (suc n) v zero w e = some_is e
get_copy (suc n) v (suc i) w e = get_copy n v i w e
