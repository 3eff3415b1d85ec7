-- Members of lists of numbers.
use Rattle.std.proofs.Common.{◌≡◌, ℕ, zero, suc, ◌<◌, ◌≤◌, Bool, true, false, eqb, List, [], ◌∷◌, ◌++◌, length, get_or, Some, refl, sym, ap, ◌∙◌, arith, ⊎_elim}
use Rattle.std.specs.Prelude.{slice_get, ◌||◌, ◌==◌}
use Rattle.std.specs.List.{IsDistinct, list_any}
use Rattle.std.proofs.lemmas.Bool.{eq-eqb, eqb-true, cases_lt}
use Rattle.std.proofs.lemmas.Cmp.{nat_eq_equiv}
use Rattle.std.proofs.lemmas.Map.Keys.{apart_from_distinct}
use Rattle.std.proofs.lemmas.Map.Made.{length-le_from_is_member}
use Rattle.std.proofs.lemmas.Option.{slice_get_within, get_or_from_slice_get}
use Rattle.eif_system.specs.Graph.{is_member}

pub or_cases : (P : Type 0) (a b : Bool) → (a || b) ≡ true → (a ≡ true → P) → (b ≡ true → P) → P
or_cases P true b h f g = f refl
or_cases P false b h f g = g h

pub or_left : (a b : Bool) → a ≡ true → (a || b) ≡ true
or_left true b h = refl
or_left false b h = cc

pub or_right : (a b : Bool) → b ≡ true → (a || b) ≡ true
or_right true b h = refl
or_right false b h = h

pub or_false : (b : Bool) → (b || false) ≡ b
or_false true = refl
or_false false = refl

or_grouped : (a b c : Bool) → (a || (b || c)) ≡ ((a || b) || c)
or_grouped true b c = refl
or_grouped false b c = refl

pub is_false : (b : Bool) → (b ≡ true → ⊥) → b ≡ false
is_false true h = absurd (h refl)
is_false false h = refl

pub same_bool : (a b : Bool) → (a ≡ true → b ≡ true) → (b ≡ true → a ≡ true) → a ≡ b
same_bool true b f g = sym (f refl)
same_bool false true f g = g refl
same_bool false false f g = refl

-- the library's test of members
pub same_member : (x : ℕ) (xs : List ℕ) → list_any (eqb x) xs ≡ is_member x xs
same_member x [] = refl
same_member x (y ∷ ys) =
    ap (λ b. b || list_any (eqb x) ys) (nat_eq_equiv.symm x y) ∙ ap (λ b. (y == x) || b) (same_member x ys)

-- members and their places
pub member_at : (xs : List ℕ) (i x : ℕ) → slice_get xs i ≡ Some x → is_member x xs ≡ true
member_at [] i x e = cc
member_at (y ∷ ys) zero x e = let q : y ≡ x = cc in or_left (y == x) _ (eq-eqb y x q)
member_at (y ∷ ys) (suc i) x e = or_right (y == x) _ (member_at ys i x e)

pub place_of : (xs : List ℕ) (x : ℕ) → is_member x xs ≡ true → (i : ℕ) × (slice_get xs i ≡ Some x)
place_of [] x h = cc
place_of (y ∷ ys) x h = or_cases _ (y == x) (is_member x ys) h
    (λ t. (0, ap Some (eqb-true y x t)))
    (λ t. let r = place_of ys x t in (suc r.0, r.1))

pub member_one_more : (xs : List ℕ) (p a : ℕ) → is_member a (xs ++ p ∷ []) ≡ (is_member a xs || (p == a))
member_one_more [] p a = or_false (p == a)
member_one_more (x ∷ xs) p a =
    ap (λ b. (x == a) || b) (member_one_more xs p a) ∙ or_grouped (x == a) (is_member a xs) (p == a)

-- places in a list that goes on
pub place_kept : (xs ys : List ℕ) (i a : ℕ) → slice_get xs i ≡ Some a → slice_get (xs ++ ys) i ≡ Some a
place_kept [] ys i a e = cc
place_kept (x ∷ xs) ys zero a e = e
place_kept (x ∷ xs) ys (suc i) a e = place_kept xs ys i a e

pub place_before : (xs ys : List ℕ) (i a : ℕ) → i < length xs → slice_get (xs ++ ys) i ≡ Some a
    → slice_get xs i ≡ Some a
place_before [] ys i a h e = absurd (omega arith)
place_before (x ∷ xs) ys zero a h e = e
place_before (x ∷ xs) ys (suc i) a h e = place_before xs ys i a (omega arith) e

-- a number that stands at two places of different numbers
pub one_place : (xs : List ℕ) → IsDistinct eqb xs → (i j a : ℕ) → slice_get xs i ≡ Some a → slice_get xs j ≡ Some a
    → i ≡ j
one_place xs d i j a e f = ⊎_elim (λ (h : i < j). absurd (apart i j h e f))
    (λ (h : j ≤ i). ⊎_elim (λ (k : j < i). absurd (apart j i k f e))
    (λ (k : i ≤ j). let q : i ≡ j = omega arith in q) (cases_lt j i))
    (cases_lt i j)
  where
    apart : (i j : ℕ) → i < j → slice_get xs i ≡ Some a → slice_get xs j ≡ Some a → ⊥
    apart i j h e f =
        let t = apart_from_distinct eqb xs i j a d h (slice_get_within xs j a f) in
        let p = get_or_from_slice_get xs i a a e in
        let q = get_or_from_slice_get xs j a a f in
        let s : eqb a a ≡ false = ap (λ x. eqb x a) (sym p) ∙ (ap (λ x. eqb (get_or xs i a) x) (sym q) ∙ t) in
        let r = nat_eq_equiv.refl a in
        let z : true ≡ false = sym r ∙ s in
        cc

-- different numbers that are all in another list are no more
pub no_more : (xs ys : List ℕ) → IsDistinct eqb xs → ((a : ℕ) → is_member a xs ≡ true → is_member a ys ≡ true)
    → length xs ≤ length ys
no_more xs ys d f =
    length-le_from_is_member nat_eq_equiv xs ys d (λ q h. same_member q ys ∙ f q (sym (same_member q xs) ∙ h))
