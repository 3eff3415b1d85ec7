-- Faults of lists that are put together from those of their items.
use Rattle.std.proofs.Common.{◌≡◌, ℕ, zero, suc, ◌+◌, List, [], ◌∷◌, ◌++◌, Some, refl, sym, ap, ap₂, subst, ◌∙◌, arith}
use Rattle.std.proofs.lemmas.Option.{same_Some}
use Rattle.std.specs.List.{flat_map, enumerate_from}
use Rattle.std.specs.Prelude.{slice_get}
use Rattle.eif_base.specs.Appends.{In}
use Rattle.eif_base.specs.declared.fault.Fault.{Fault}

-- a fault of two lists is one of the first or of the second
in_either : (P : Type 0) (xs ys : List Fault) (f : Fault) → In (xs ++ ys) f → (In xs f → P) → (In ys f → P) → P
in_either P [] ys f h left right = right h
in_either P (x ∷ xs) ys f (zero, e) left right = left (zero, e)
in_either P (x ∷ xs) ys f (suc i, e) left right =
    in_either P xs ys f (i, e) (λ l. left (suc l.0, l.1)) right

in_left : (xs ys : List Fault) (f : Fault) → In xs f → In (xs ++ ys) f
in_left [] ys f (i, e) = cc
in_left (x ∷ xs) ys f (zero, e) = (zero, e)
in_left (x ∷ xs) ys f (suc i, e) = let r = in_left xs ys f (i, e) in (suc r.0, r.1)

in_right : (xs ys : List Fault) (f : Fault) → In ys f → In (xs ++ ys) f
in_right [] ys f h = h
in_right (x ∷ xs) ys f h = let r = in_right xs ys f h in (suc r.0, r.1)

-- an item of the list, and one of its faults
pub record OfItem {A : Type 0} (judge : A → List Fault) (xs : List A) (f : Fault) : Type 0 where
  pub place : ℕ
  pub item : A
  pub at : slice_get xs place ≡ Some item
  pub fault : In (judge item) f

pub of_item : {A : Type 0} (judge : A → List Fault) (xs : List A) (f : Fault) → In (flat_map judge xs) f →
    OfItem judge xs f
of_item judge [] f h = cc
of_item judge (x ∷ xs) f h = in_either _ (judge x) (flat_map judge xs) f h
    (λ l. record { place = 0; item = x; at = refl; fault = l })
    (λ r. let o = of_item judge xs f r in record { place = suc o.place; item = o.item; at = o.at; fault = o.fault })

pub is_of_item : {A : Type 0} (judge : A → List Fault) (xs : List A) (f : Fault) (i : ℕ) (x : A) →
    slice_get xs i ≡ Some x → In (judge x) f → In (flat_map judge xs) f
is_of_item judge [] f i x at h = cc
is_of_item judge (y ∷ xs) f zero x at h =
    in_left (judge y) (flat_map judge xs) f (subst (λ y. In (judge y) f) (sym (same_Some y x at)) h)
is_of_item judge (y ∷ xs) f (suc i) x at h =
    in_right (judge y) (flat_map judge xs) f (is_of_item judge xs f i x at h)

-- ---- items with their numbers

pub numbered_item : {A : Type 0} (n : ℕ) (xs : List A) (i : ℕ) (x : A) → slice_get xs i ≡ Some x →
    slice_get (enumerate_from n xs) i ≡ Some (n + i, x)
numbered_item n [] i x at = cc
numbered_item {A = A} n (y ∷ xs) zero x at =
    let e : n ≡ n + 0 = omega arith in ap₂ (λ (k : ℕ) (y : A). Some (k, y)) e (same_Some y x at)
numbered_item {A = A} n (y ∷ xs) (suc i) x at =
    let e : n + 1 + i ≡ n + suc i = omega arith in
    subst (λ (k : ℕ). slice_get (enumerate_from (n + 1) xs) i ≡ Some (k, x)) e (numbered_item (n + 1) xs i x at)

-- the item, where its number is known
pub record IsNumbered {A : Type 0} (n : ℕ) (xs : List A) (p : ℕ × A) : Type 0 where
  pub place : ℕ
  pub number : p.0 ≡ n + place
  pub at : slice_get xs place ≡ Some p.1

pub item_numbered : {A : Type 0} (n : ℕ) (xs : List A) (i : ℕ) (p : ℕ × A) →
    slice_get (enumerate_from n xs) i ≡ Some p → IsNumbered n xs p
item_numbered n [] i p at = cc
item_numbered {A = A} n (y ∷ xs) zero p at =
    let pair : ℕ × A = (n, y) in
    let e : pair ≡ p = same_Some pair p at in
    let k : n ≡ n + 0 = omega arith in
    record { place = 0; number = sym (ap (λ (p : ℕ × A). p.0) e) ∙ k; at = ap (λ (p : ℕ × A). Some p.1) e }
item_numbered {A = A} n (y ∷ xs) (suc i) p at =
    let r = item_numbered (n + 1) xs i p at in
    let k : n + 1 + r.place ≡ n + suc r.place = omega arith in
    record { place = suc r.place; number = r.number ∙ k; at = r.at }
