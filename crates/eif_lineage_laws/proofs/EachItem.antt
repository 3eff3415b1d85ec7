-- What holds of each item of a list.
use Rattle.std.proofs.Common.{◌≡◌, ℕ, zero, suc, ◌+◌, List, [], ◌∷◌, ◌++◌, map, Some, refl, subst, arith}
use Rattle.std.proofs.lemmas.Option.{same_Some}
use Rattle.std.specs.List.{flat_map, enumerate_from}
use Rattle.std.specs.Prelude.{slice_get}

-- P holds of each item
abbrev pub AllOf : {A : Type 0} → (A → Type 0) → List A → Type 0
AllOf P [] = Unit {0}
AllOf P (x ∷ xs) = P x × AllOf P xs

pub all_at : {A : Type 0} (P : A → Type 0) (xs : List A) (i : ℕ) (x : A) → AllOf P xs → slice_get xs i ≡ Some x → P x
all_at P [] i x h e = cc
all_at {A} P (y ∷ xs) zero x h e = let q : y ≡ x = same_Some y x e in subst P q h.0
all_at P (y ∷ xs) (suc i) x h e = all_at P xs i x h.1 e

pub all_then : {A : Type 0} (P Q : A → Type 0) (xs : List A) → ((x : A) → P x → Q x) → AllOf P xs → AllOf Q xs
all_then P Q [] f h = tt
all_then P Q (x ∷ xs) f h = (f x h.0, all_then P Q xs f h.1)

pub all_append : {A : Type 0} (P : A → Type 0) (xs ys : List A) → AllOf P xs → AllOf P ys → AllOf P (xs ++ ys)
all_append P [] ys h g = g
all_append P (x ∷ xs) ys h g = (h.0, all_append P xs ys h.1 g)

pub all_left : {A : Type 0} (P : A → Type 0) (xs ys : List A) → AllOf P (xs ++ ys) → AllOf P xs
all_left P [] ys h = tt
all_left P (x ∷ xs) ys h = (h.0, all_left P xs ys h.1)

pub all_right : {A : Type 0} (P : A → Type 0) (xs ys : List A) → AllOf P (xs ++ ys) → AllOf P ys
all_right P [] ys h = h
all_right P (x ∷ xs) ys h = all_right P xs ys h.1

pub all_from : {A : Type 0} (P : A → Type 0) (xs : List A) → ((i : ℕ) (x : A) → slice_get xs i ≡ Some x → P x) →
    AllOf P xs
all_from P [] f = tt
all_from P (x ∷ xs) f = (f 0 x refl, all_from P xs (λ i y e. f (suc i) y e))

pub all_map : {A B : Type 0} (f : A → B) (P : B → Type 0) (xs : List A) → AllOf P (map f xs) → AllOf (λ x. P (f x)) xs
all_map f P [] h = tt
all_map f P (x ∷ xs) h = (h.0, all_map f P xs h.1)

pub all_flat : {A B : Type 0} (f : A → List B) (P : B → Type 0) (xs : List A) → AllOf P (flat_map f xs) →
    AllOf (λ x. AllOf P (f x)) xs
all_flat f P [] h = tt
all_flat f P (x ∷ xs) h = (all_left P (f x) (flat_map f xs) h, all_flat f P xs (all_right P (f x) (flat_map f xs) h))

pub all_both : {A : Type 0} (P Q R : A → Type 0) (xs : List A) → ((x : A) → P x → Q x → R x) → AllOf P xs →
    AllOf Q xs → AllOf R xs
all_both P Q R [] f h g = tt
all_both P Q R (x ∷ xs) f h g = (f x h.0 g.0, all_both P Q R xs f h.1 g.1)

-- of items with their numbers: P of the items, or of the numbers
pub all_numbered : {A : Type 0} (P : A → Type 0) (n : ℕ) (xs : List A) → AllOf (λ x. P x.1) (enumerate_from n xs) →
    AllOf P xs
all_numbered P n [] h = tt
all_numbered P n (x ∷ xs) h = (h.0, all_numbered P (n + 1) xs h.1)

pub all_numbers : {A : Type 0} (P : ℕ → Type 0) (n : ℕ) (xs : List A) (i : ℕ) (x : A) →
    AllOf (λ x. P x.0) (enumerate_from n xs) → slice_get xs i ≡ Some x → P (n + i)
all_numbers P n [] i x h e = cc
all_numbers P n (y ∷ xs) zero x h e = let z : n ≡ n + 0 = omega arith in subst P z h.0
all_numbers P n (y ∷ xs) (suc i) x h e =
    let z : n + 1 + i ≡ n + suc i = omega arith in subst P z (all_numbers P (n + 1) xs i x h.1 e)
