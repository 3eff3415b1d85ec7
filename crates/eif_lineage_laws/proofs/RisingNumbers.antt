-- Sets of numbers as rising lists.
use Rattle.std.proofs.Common.{◌≡◌, ℕ, zero, suc, ◌+◌, ◌<◌, Bool, true, false, List, [], ◌∷◌, refl, sym, ap, subst, ◌∙◌, ⊎_elim, ◌⊎◌, arith}
use Rattle.std.specs.Prelude.{◌||◌, ◌==◌, slice_index}
use Rattle.std.specs.Cmp.{nat_cmp_is}
use Rattle.std.specs.List.Sorted.{IsStrictlyIncreasing}
use Rattle.std.specs.Ordering.{nat_cmp}
use Rattle.std.specs.declared.cmp.Ordering.{Ordering}
use Rattle.std.specs.declared.cmp.Ordering.TheVariants.{Less, Equal, Greater}
use Rattle.std.proofs.lemmas.Bool.{cases_order, eqb-true, eq-eqb}
use Rattle.eif_ancestry.proofs.Members.{or_cases, or_left}
use Rattle.eif_classes.specs.RisingLists.{placed, put, in_order}
use Rattle.eif_system.specs.Graph.{is_member}

-- how x compares to y, with what the list becomes
put_cases : (Q : List ℕ → Type 0) (x y : ℕ) (ys : List ℕ) → (x < y → Q (x ∷ y ∷ ys)) → (x ≡ y → Q (y ∷ ys)) →
    (y < x → Q (y ∷ put nat_cmp x ys)) → Q (put nat_cmp x (y ∷ ys))
put_cases Q x y ys less equal greater = ⊎_elim
    (λ (e : x ≡ y). at Equal (nat_cmp_is x y Equal e) (equal e))
    (λ (h : (x < y) ⊎ (y < x)). ⊎_elim
    (λ (l : x < y). at Less (nat_cmp_is x y Less l) (less l))
    (λ (g : y < x). at Greater (nat_cmp_is x y Greater g) (greater g)) h)
    (cases_order x y)
  where
    at : (o : Ordering) → o ≡ nat_cmp x y → Q (placed o x y ys (put nat_cmp x ys)) → Q (put nat_cmp x (y ∷ ys))
    at o e q = subst (λ o. Q (placed o x y ys (put nat_cmp x ys))) e q

or_twice : (a b : Bool) → (a || b) ≡ (a || (a || b))
or_twice true b = refl
or_twice false b = refl

or_swapped : (a b c : Bool) → (a || (b || c)) ≡ (b || (a || c))
or_swapped true true c = refl
or_swapped true false c = refl
or_swapped false b c = refl

member_put : (x : ℕ) (ys : List ℕ) (z : ℕ) → is_member z (put nat_cmp x ys) ≡ ((x == z) || is_member z ys)
member_put x [] z = refl
member_put x (y ∷ ys) z = put_cases (λ zs. is_member z zs ≡ ((x == z) || is_member z (y ∷ ys))) x y ys
    (λ l. refl)
    (λ e. subst (λ x. is_member z (y ∷ ys) ≡ ((x == z) || is_member z (y ∷ ys))) (sym e)
    (or_twice (y == z) (is_member z ys)))
    (λ g. ap (λ b. (y == z) || b) (member_put x ys z) ∙ or_swapped (y == z) (x == z) (is_member z ys))

-- a list put in order has the same members
pub member_in_order : (xs : List ℕ) (z : ℕ) → is_member z (in_order nat_cmp xs) ≡ is_member z xs
member_in_order [] z = refl
member_in_order (x ∷ xs) z =
    member_put x (in_order nat_cmp xs) z ∙ ap (λ b. (x == z) || b) (member_in_order xs z)

-- each is less than those after it
abbrev pub Rises : List ℕ → Type 0
Rises [] = Unit {0}
Rises (x ∷ xs) = ((y : ℕ) → is_member y xs ≡ true → x < y) × Rises xs

put_rises : (x : ℕ) (ys : List ℕ) → Rises ys → Rises (put nat_cmp x ys)
put_rises x [] r = (λ y h. let z : false ≡ true = h in cc, tt)
put_rises x (y ∷ ys) r = put_cases Rises x y ys
    (λ l. (
      λ z m. or_cases (x < z) (y == z) (is_member z ys) m
          (λ t. let e = eqb-true y z t in let h : x < z = omega arith in h)
          (λ n. let a = r.0 z n in let h : x < z = omega arith in h),
      r,
    ))
    (λ e. r)
    (λ g. (
      λ z m. or_cases (y < z) (x == z) (is_member z ys) (sym (member_put x ys z) ∙ m)
          (λ t. let e = eqb-true x z t in let h : y < z = omega arith in h)
          (λ n. r.0 z n),
      put_rises x ys r.1,
    ))

in_order_rises : (xs : List ℕ) → Rises (in_order nat_cmp xs)
in_order_rises [] = tt
in_order_rises (x ∷ xs) = put_rises x (in_order nat_cmp xs) (in_order_rises xs)

increasing : (xs : List ℕ) → Rises xs → IsStrictlyIncreasing xs
increasing [] r k h = absurd (omega arith)
increasing (x ∷ []) r k h = absurd (omega arith)
increasing (x ∷ y ∷ ys) r zero h = r.0 y (or_left (y == y) (is_member y ys) (eq-eqb y y refl))
increasing (x ∷ y ∷ ys) r (suc k) h =
    let e : suc (k + 1) ≡ suc k + 1 = omega arith in
    subst (λ i. slice_index (y ∷ ys) k < slice_index (x ∷ y ∷ ys) i) e (increasing (y ∷ ys) r.1 k (omega arith))

pub in_order_increasing : (xs : List ℕ) → IsStrictlyIncreasing (in_order nat_cmp xs)
in_order_increasing xs = increasing (in_order nat_cmp xs) (in_order_rises xs)
