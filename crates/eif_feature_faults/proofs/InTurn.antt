-- Lists that are gone through from the front, item by item.
use Rattle.std.proofs.Common.{◌≡◌, ℕ, ◌+◌, ◌<◌, ◌≤◌, Bool, List, [], ◌∷◌, ◌++◌, length, map, take, get_or, Option, Some, None, refl, sym, ap, ◌∙◌}
use Rattle.std.proofs.Common.{ap₂, append_assoc, arith, cond, zero, suc, true, false}
use Rattle.std.specs.Prelude.{◌||◌, flat_map, nat_lt, slice_get, sum}
use Rattle.std.proofs.lemmas.Bool.Decides.{nat_tests}
use Rattle.std.specs.List.{enumerate_from, list_any, position_from}
use Rattle.std.proofs.lemmas.Grind.{flat_map-append}
use Rattle.std.proofs.lemmas.List.{append-nil, length-map, take_all, take_more}
use Rattle.std.proofs.lemmas.List.FromFn.{get_or-enumerate_from, length-enumerate_from}
use Rattle.eif_feature_rules.specs.RuleForms.{with_earlier}
use Rattle.std.proofs.lemmas.List.Folds.{list_any_more}
use Rattle.std.proofs.lemmas.List.Sums.{sum-map, sum_by_more, sum_by-take-le}
use denote.Ref.{Bor}
use Rattle.std.specs.Slice.{IsItemAt}
use Rattle.std.specs.Option.{option_map, option_map_or}
use Rattle.std.proofs.lemmas.Option.{get_or_from_slice_get, slice_get-get_or, slice_get-map, slice_get_past, slice_get_within}

-- the items so far, and one more
pub take-next : {A : Type 0} (xs : List A) (i : ℕ) (x : A) → slice_get xs i ≡ Some x
    → take (i + 1) xs ≡ take i xs ++ x ∷ []
take-next xs i x e =
    take_more xs i x (slice_get_within xs i x e)
    ∙ ap (λ y. take i xs ++ y ∷ []) (get_or_from_slice_get xs i x x e)

module _ {A B : Type 0} (f : A → List B) (old : List B) where
  -- what an item more adds
  pub added_more : (xs : List A) (i : ℕ) (x : A) (out new : List B) → slice_get xs i ≡ Some x
      → out ≡ old ++ flat_map f (take i xs) → new ≡ out ++ f x → new ≡ old ++ flat_map f (take (i + 1) xs)
  added_more xs i x out new at so_far pushed =
      pushed
      ∙ (ap (λ l. l ++ f x) so_far
      ∙ (append_assoc old (flat_map f (take i xs)) (f x)
      ∙ ap (λ l. old ++ l)
      (sym (ap (flat_map f) (take-next xs i x at)
      ∙ (flat_map-append f (take i xs) (x ∷ []) ∙ ap (λ l. flat_map f (take i xs) ++ l) (append-nil (f x)))))))

  -- what all items add
  pub added_all : (xs : List A) (i : ℕ) (out : List B) → length xs ≤ i → out ≡ old ++ flat_map f (take i xs)
      → out ≡ old ++ flat_map f xs
  added_all xs i out past so_far = so_far ∙ ap (λ l. old ++ flat_map f l) (take_all i xs past)

-- an item that passes no more
pub list_any-next : {A : Type 0} (p : A → Bool) (xs : List A) (i : ℕ) (x : A) → slice_get xs i ≡ Some x
    → list_any p (take (i + 1) xs) ≡ (list_any p (take i xs) || p x)
list_any-next p xs i x e =
    list_any_more p xs i x (slice_get_within xs i x e)
    ∙ ap (λ y. list_any p (take i xs) || p y) (get_or_from_slice_get xs i x x e)

-- ---- sums

module _ {A : Type 0} (f : A → ℕ) where
  pub sum-next : (xs : List A) (i : ℕ) (x : A) → slice_get xs i ≡ Some x
      → sum (map f (take (i + 1) xs)) ≡ sum (map f (take i xs)) + f x
  sum-next xs i x e =
      sum-map f (take (i + 1) xs)
      ∙ (sum_by_more f xs i x (slice_get_within xs i x e)
      ∙ ap₂ ◌+◌ (sym (sum-map f (take i xs))) (ap f (get_or_from_slice_get xs i x x e)))

  pub sum-take-le : (xs : List A) (i : ℕ) → sum (map f (take i xs)) ≤ sum (map f xs)
  sum-take-le xs i = rw (sum-map f (take i xs), sum-map f xs) (sum_by-take-le f xs i)

pub is_over : (m n : ℕ) → m < n → true ≡ nat_lt m n
is_over m n h = grind (arith, nat_tests)

pub is_within : (m n : ℕ) → n ≤ m → false ≡ nat_lt m n
is_within m n h = grind (arith, nat_tests)

-- ---- what is lent by its place

pub lent_at : {A : Type 0} (xs : List A) (i : ℕ) (r : Option (Bor A)) → IsItemAt xs i r
    → option_map (λ x. x.now) r ≡ slice_get xs i
lent_at xs i None h = sym (slice_get_past xs i h.3)
lent_at xs i (Some x) h = ap Some h.1 ∙ sym (slice_get-get_or xs i x.now h.3.0)

pub of_lent : {A B : Type 0} (f : A → B) (d : B) (xs : List A) (i : ℕ) (r : Option (Bor A)) → IsItemAt xs i r
    → option_map_or (λ x. f x.now) r d ≡ option_map_or f (slice_get xs i) d
of_lent f d xs i None h = ap (λ o. option_map_or f o d) (lent_at xs i None h)
of_lent f d xs i (Some x) h = ap (λ o. option_map_or f o d) (lent_at xs i (Some x) h)

-- ---- one addition after another

pub then : {A : Type 0} (old x y a b : List A) → a ≡ old ++ x → b ≡ a ++ y → b ≡ old ++ (x ++ y)
then old x y a b first second = second ∙ (ap (λ l. l ++ y) first ∙ append_assoc old x y)

-- ---- what stands before a place

-- an item before that place passes where the first that passes stands before it
module _ {A : Type 0} (p : A → Bool) where
  not_before : (xs : List A) (s m : ℕ) → m ≤ s → option_map_or (λ k. nat_lt k m) (position_from p s xs) false ≡ false
  not_before [] s m h = refl
  not_before (x ∷ xs) s m h = go (p x) (not_before xs (s + 1) m (omega arith))
    where
      go : (b : Bool) → option_map_or (λ k. nat_lt k m) (position_from p (s + 1) xs) false ≡ false
          → option_map_or (λ k. nat_lt k m) (cond b (Some s) (position_from p (s + 1) xs)) false ≡ false
      go true later = sym (is_within s m h)
      go false later = later

  before_from : (xs : List A) (s i m : ℕ) → s + i ≡ m
      → list_any p (take i xs) ≡ option_map_or (λ k. nat_lt k m) (position_from p s xs) false
  before_from xs s zero m e = sym (not_before xs s m (omega arith))
  before_from [] s (suc i) m e = refl
  before_from (x ∷ xs) s (suc i) m e = go (p x) (before_from xs (s + 1) i m (omega arith))
    where
      go : (b : Bool) → list_any p (take i xs) ≡ option_map_or (λ k. nat_lt k m) (position_from p (s + 1) xs) false
          → (b || list_any p (take i xs))
          ≡ option_map_or (λ k. nat_lt k m) (cond b (Some s) (position_from p (s + 1) xs)) false
      go true h = is_over s m (omega arith)
      go false h = h

  pub any_before : (xs : List A) (i : ℕ)
      → list_any p (take i xs) ≡ option_map_or (λ k. nat_lt k i) (position_from p 0 xs) false
  any_before xs i = before_from xs 0 i i (omega arith)

-- an item behind those before it
pub at_with_earlier : {A : Type 0} (xs : List A) (i : ℕ) (x : A) → slice_get xs i ≡ Some x
    → slice_get (with_earlier xs) i ≡ Some (take i xs, x)
at_with_earlier {A} xs i x at =
    let within = slice_get_within xs i x at in
    let numbered : i < length (enumerate_from 0 xs) = omega (arith, length-enumerate_from 0 xs) in
    let here : get_or (enumerate_from 0 xs) i (i, x) ≡ (0 + i, get_or xs i x) =
    get_or-enumerate_from 0 xs i (i, x) within in
    let zero_on : 0 + i ≡ i = omega arith in
    let earlier : ℕ × A → List A × A = λ x. (take x.0 xs, x.1) in
    slice_get-map earlier (enumerate_from 0 xs) i
    ∙ (ap (option_map earlier) (slice_get-get_or (enumerate_from 0 xs) i (i, x) numbered)
    ∙ (ap (λ y. Some (earlier y)) here
    ∙ ap₂ (λ k y. Some (take k xs, y)) zero_on (get_or_from_slice_get xs i x x at)))

pub length-with_earlier : {A : Type 0} (xs : List A) → length (with_earlier xs) ≡ length xs
length-with_earlier {A} xs =
    length-map (enumerate_from 0 xs) (λ (x : ℕ × A). (take x.0 xs, x.1)) ∙ length-enumerate_from 0 xs
