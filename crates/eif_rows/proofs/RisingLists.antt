-- Lists in order. The order is any comparison that is total, and says `Equal` of equal items alone.
use Rattle.std.proofs.Common.{◌≡◌, ℕ, zero, suc, ◌<◌, Bool, true, false, List, [], ◌∷◌, map, Some, refl, sym, ap, ap₂, subst, ◌∙◌, arith}
use Rattle.std.specs.Prelude.{◌||◌, slice_get}
use Rattle.std.specs.Cmp.{IsTotalOrder, nat_cmp_is}
use Rattle.std.specs.List.{AllByRecursion, list_any}
use Rattle.std.specs.List.Sorted.{IsStrictlySortedBy}
use Rattle.std.specs.Ordering.{eq_by_cmp, is_eq, nat_cmp, ordering_reverse}
use Rattle.std.specs.declared.cmp.Ordering.{Ordering}
use Rattle.std.specs.declared.cmp.Ordering.TheVariants.{Less, Equal, Greater}
use Rattle.std.proofs.lemmas.Cmp.{tied_itself, alike_right, ranked, nat_cmp_total, nat_list_cmp_total}
use Rattle.std.proofs.lemmas.Map.Keys.{any_passes_from_place}
use Rattle.std.proofs.lemmas.Map.Text.{is_eq-slice_cmp}
use Rattle.std.proofs.lemmas.Option.{same_Some}
use Rattle.std.proofs.lemmas.Slice.Eq.{bytes_eq-Decides}
use Rattle.eif_classes.specs.Names.{name_cmp}
use Rattle.eif_classes.specs.RisingLists.{placed, put, in_order}
use Rattle.eif_rows.specs.Matched.{Match}

-- the comparison is total, and no two items tie
pub record IsLinearOrder {A : Type 0} (cmp : A → A → Ordering) : Type 0 where
  pub total : IsTotalOrder cmp
  pub one : (x y : A) → cmp x y ≡ Equal → x ≡ y

pub or_cases : (P : Type 0) (a b : Bool) → (a || b) ≡ true → (a ≡ true → P) → (b ≡ true → P) → P
or_cases P true b h f g = f refl
or_cases P false b h f g = g h

pub or_twice : (a b : Bool) → (a || b) ≡ (a || (a || b))
or_twice true b = refl
or_twice false b = refl

or_swapped : (a b c : Bool) → (a || (b || c)) ≡ (b || (a || c))
or_swapped true true c = refl
or_swapped true false c = refl
or_swapped false b c = refl

pub equal_from_is_eq : (o : Ordering) → is_eq o ≡ true → o ≡ Equal
equal_from_is_eq Less e = absurd (cc)
equal_from_is_eq Equal e = refl
equal_from_is_eq Greater e = absurd (cc)

less_from_greater : (o p : Ordering) → o ≡ Greater → o ≡ ordering_reverse p → p ≡ Less
less_from_greater o Less e r = refl
less_from_greater o Equal e r = absurd (cc)
less_from_greater o Greater e r = absurd (cc)

-- ---- in order

module _ {A : Type 0} {cmp : A → A → Ordering} (o : IsTotalOrder cmp) where
  below_all : (x y : A) (ys : List A) → cmp x y ≡ Less → AllByRecursion (λ z. cmp y z ≡ Less) ys
      → AllByRecursion (λ z. cmp x z ≡ Less) ys
  below_all x y [] e h = tt
  below_all x y (z ∷ ys) e h = (o.trans x y z e h.0, below_all x y ys e h.1)

  All-placed : (P : A → Type 0) (r : Ordering) (x y : A) (ys rest : List A) → P x → AllByRecursion P (y ∷ ys)
      → AllByRecursion P rest → AllByRecursion P (placed r x y ys rest)
  All-placed P Less x y ys rest p h k = (p, h)
  All-placed P Equal x y ys rest p h k = h
  All-placed P Greater x y ys rest p h k = (h.0, k)

  All-put : (P : A → Type 0) (x : A) (ys : List A) → P x → AllByRecursion P ys → AllByRecursion P (put cmp x ys)
  All-put P x [] p h = (p, tt)
  All-put P x (y ∷ ys) p h = All-placed P (cmp x y) x y ys (put cmp x ys) p h (All-put P x ys p h.1)

  rising-placed : (r : Ordering) (x y : A) (ys rest : List A) → cmp x y ≡ r → IsStrictlySortedBy cmp (y ∷ ys)
      → ((P : A → Type 0) → P x → AllByRecursion P ys → AllByRecursion P rest) → IsStrictlySortedBy cmp rest
      → IsStrictlySortedBy cmp (placed r x y ys rest)
  unfolding IsStrictlySortedBy
  rising-placed Less x y ys rest e h all up = ((e, below_all x y ys e h.0), h)
  rising-placed Equal x y ys rest e h all up = h
  rising-placed Greater x y ys rest e h all up =
      (all (λ z. cmp y z ≡ Less) (less_from_greater (cmp x y) (cmp y x) e (o.antisymm x y)) h.0, up)

  rising-put : (x : A) (ys : List A) → IsStrictlySortedBy cmp ys → IsStrictlySortedBy cmp (put cmp x ys)
  unfolding IsStrictlySortedBy
  rising-put x [] h = (tt, tt)
  rising-put x (y ∷ ys) h = rising-placed (cmp x y) x y ys (put cmp x ys) refl h
      (λ P p k. All-put P x ys p k) (rising-put x ys h.1)

  -- each item of a list put in order is less than those after it
  pub rising-in_order : (xs : List A) → IsStrictlySortedBy cmp (in_order cmp xs)
  unfolding IsStrictlySortedBy
  rising-in_order [] = tt
  rising-in_order (x ∷ xs) = rising-put x (in_order cmp xs) (rising-in_order xs)

-- a list in order stays as it is
put_first : {A : Type 0} (cmp : A → A → Ordering) (x : A) (xs : List A)
    → AllByRecursion (λ y. cmp x y ≡ Less) xs → put cmp x xs ≡ x ∷ xs
put_first cmp x [] h = refl
put_first cmp x (y ∷ ys) h = ap (λ r. placed r x y ys (put cmp x ys)) h.0

pub in_order-rising : {A : Type 0} (cmp : A → A → Ordering) (xs : List A)
    → IsStrictlySortedBy cmp xs → in_order cmp xs ≡ xs
unfolding IsStrictlySortedBy
in_order-rising cmp [] h = refl
in_order-rising cmp (x ∷ xs) h = ap (put cmp x) (in_order-rising cmp xs h.1) ∙ put_first cmp x xs h.0

-- ---- members

module _ {A : Type 0} {cmp : A → A → Ordering} (o : IsLinearOrder cmp) where
  any-placed : (p : A → Bool) (r : Ordering) (x y : A) (ys rest : List A) → cmp x y ≡ r
      → list_any p rest ≡ (p x || list_any p ys)
      → list_any p (placed r x y ys rest) ≡ (p x || list_any p (y ∷ ys))
  any-placed p Less x y ys rest e later = refl
  any-placed p Equal x y ys rest e later =
      or_twice (p y) (list_any p ys) ∙ ap (λ z. p z || list_any p (y ∷ ys)) (sym (o.one x y e))
  any-placed p Greater x y ys rest e later =
      ap (λ b. p y || b) later ∙ or_swapped (p y) (p x) (list_any p ys)

  any-put : (p : A → Bool) (x : A) (ys : List A) → list_any p (put cmp x ys) ≡ (p x || list_any p ys)
  any-put p x [] = refl
  any-put p x (y ∷ ys) = any-placed p (cmp x y) x y ys (put cmp x ys) refl (any-put p x ys)

  -- a test finds the same in a list put in order
  pub list_any-in_order : (p : A → Bool) (xs : List A) → list_any p (in_order cmp xs) ≡ list_any p xs
  list_any-in_order p [] = refl
  list_any-in_order p (x ∷ xs) =
      any-put p x (in_order cmp xs) ∙ ap (λ b. p x || b) (list_any-in_order p xs)

  -- ---- lists with the same members

  none_above : (x z : A) (xs : List A) → cmp z x ≡ Equal → AllByRecursion (λ y. cmp x y ≡ Less) xs
      → list_any (eq_by_cmp cmp z) xs ≡ false
  none_above x z [] e h = refl
  none_above x z (y ∷ ys) e h =
      ap₂ ◌||◌ (ap is_eq (o.total.congr z x y e ∙ h.0)) (none_above x z ys e h.1)

  above_first : (x z : A) (xs : List A) → AllByRecursion (λ y. cmp x y ≡ Less) xs
      → list_any (eq_by_cmp cmp z) xs ≡ true → cmp x z ≡ Less
  above_first x z [] h m = absurd (cc)
  above_first x z (y ∷ ys) h m = or_cases (cmp x z ≡ Less) (is_eq (cmp z y)) (list_any (eq_by_cmp cmp z) ys) m
      (λ q. alike_right o.total z y x (equal_from_is_eq _ q) ∙ h.0) (above_first x z ys h.1)

  first_is : (x : A) (xs : List A) → list_any (eq_by_cmp cmp x) (x ∷ xs) ≡ true
  first_is x xs = ap (λ r. is_eq r || list_any (eq_by_cmp cmp x) xs) (tied_itself o.total x)

  same_tails : (x z : A) (xs ys : List A) (b : Bool) → is_eq (cmp z x) ≡ b
      → AllByRecursion (λ y. cmp x y ≡ Less) xs → AllByRecursion (λ y. cmp x y ≡ Less) ys
      → (b || list_any (eq_by_cmp cmp z) xs) ≡ (b || list_any (eq_by_cmp cmp z) ys)
      → list_any (eq_by_cmp cmp z) xs ≡ list_any (eq_by_cmp cmp z) ys
  same_tails x z xs ys true e h k m =
      let tied = equal_from_is_eq _ e in none_above x z xs tied h ∙ sym (none_above x z ys tied k)
  same_tails x z xs ys false e h k m = m

  same_first : (x y : A) (xs ys : List A) → AllByRecursion (λ z. cmp x z ≡ Less) xs
      → AllByRecursion (λ z. cmp y z ≡ Less) ys
      → list_any (eq_by_cmp cmp x) (y ∷ ys) ≡ true → list_any (eq_by_cmp cmp y) (x ∷ xs) ≡ true → x ≡ y
  same_first x y xs ys h k m n =
      or_cases (x ≡ y) (is_eq (cmp x y)) (list_any (eq_by_cmp cmp x) ys) m (λ q. o.one x y (equal_from_is_eq _ q))
      (λ above. or_cases (x ≡ y) (is_eq (cmp y x)) (list_any (eq_by_cmp cmp y) xs) n
      (λ q. sym (o.one y x (equal_from_is_eq _ q)))
      (λ below. absurd (apart (cmp x y) (cmp y x) (o.total.antisymm x y) (above_first x y xs h below)
      (above_first y x ys k above))))
    where
      apart : (r s : Ordering) → r ≡ ordering_reverse s → r ≡ Less → s ≡ Less → ⊥
      apart r Less t e f = cc
      apart r Equal t e f = cc
      apart r Greater t e f = cc

  -- rising lists with the same members are equal
  pub same_rising : (xs ys : List A) → IsStrictlySortedBy cmp xs → IsStrictlySortedBy cmp ys
      → ((z : A) → list_any (eq_by_cmp cmp z) xs ≡ list_any (eq_by_cmp cmp z) ys) → xs ≡ ys
  unfolding IsStrictlySortedBy
  same_rising [] [] h k m = refl
  same_rising [] (y ∷ ys) h k m = let q = m y ∙ first_is y ys in absurd (cc)
  same_rising (x ∷ xs) [] h k m = let q = sym (m x) ∙ first_is x xs in absurd (cc)
  same_rising (x ∷ xs) (y ∷ ys) h k m =
      let first = same_first x y xs ys h.0 k.0 (sym (m x) ∙ first_is x xs) (m y ∙ first_is y ys) in
      let above = subst (λ w. AllByRecursion (λ z. cmp w z ≡ Less) ys) (sym first) k.0 in
      ap₂ ◌∷◌ first (same_rising xs ys h.1 k.1 (λ z. same_tails x z xs ys (is_eq (cmp z x)) refl h.0 above
      (m z ∙ ap (λ w. list_any (eq_by_cmp cmp z) (w ∷ ys)) (sym first))))

  -- lists with the same members have one order
  pub same_in_order : (xs ys : List A)
      → ((z : A) → list_any (eq_by_cmp cmp z) xs ≡ list_any (eq_by_cmp cmp z) ys)
      → in_order cmp xs ≡ in_order cmp ys
  same_in_order xs ys m =
      same_rising (in_order cmp xs) (in_order cmp ys) (rising-in_order o.total xs) (rising-in_order o.total ys)
      (λ z. list_any-in_order (eq_by_cmp cmp z) xs ∙ (m z ∙ sym (list_any-in_order (eq_by_cmp cmp z) ys)))

  -- ---- members by their places

  pub has_from_place : (xs : List A) (i : ℕ) (x : A) → slice_get xs i ≡ Some x
      → list_any (eq_by_cmp cmp x) xs ≡ true
  has_from_place xs i x e =
      any_passes_from_place (eq_by_cmp cmp x) xs i x e (ap is_eq (tied_itself o.total x))

  pub place_from_has : (xs : List A) (x : A) → list_any (eq_by_cmp cmp x) xs ≡ true
      → (i : ℕ) × (slice_get xs i ≡ Some x)
  place_from_has [] x m = absurd (cc)
  place_from_has (y ∷ ys) x m = or_cases _ (is_eq (cmp x y)) (list_any (eq_by_cmp cmp x) ys) m
      (λ q. (0, ap Some (sym (o.one x y (equal_from_is_eq _ q)))))
      (λ q. let p = place_from_has ys x q in (suc p.0, p.1))

  -- each item of a list has a place in the order, and each place there is that of an item
  pub in_order-place : (xs : List A) (i : ℕ) (x : A) → slice_get xs i ≡ Some x
      → (j : ℕ) × (slice_get (in_order cmp xs) j ≡ Some x)
  in_order-place xs i x e = place_from_has (in_order cmp xs) x
      (list_any-in_order (eq_by_cmp cmp x) xs ∙ has_from_place xs i x e)

  pub place-in_order : (xs : List A) (i : ℕ) (x : A) → slice_get (in_order cmp xs) i ≡ Some x
      → (j : ℕ) × (slice_get xs j ≡ Some x)
  place-in_order xs i x e = place_from_has xs x
      (sym (list_any-in_order (eq_by_cmp cmp x) xs) ∙ has_from_place (in_order cmp xs) i x e)

-- ---- places in a rising list

nat_cmp-suc : (i j : ℕ) (r : Ordering) → r ≡ nat_cmp i j → nat_cmp (suc i) (suc j) ≡ r
nat_cmp-suc i j Less e =
    let h : i < j = ranked i j Less e in let l : suc i < suc j = omega arith in
    sym (nat_cmp_is (suc i) (suc j) Less l)
nat_cmp-suc i j Equal e =
    let h : i ≡ j = ranked i j Equal e in let l : suc i ≡ suc j = omega arith in
    sym (nat_cmp_is (suc i) (suc j) Equal l)
nat_cmp-suc i j Greater e =
    let h : j < i = ranked i j Greater e in let l : suc j < suc i = omega arith in
    sym (nat_cmp_is (suc i) (suc j) Greater l)

module _ {A : Type 0} {cmp : A → A → Ordering} (o : IsTotalOrder cmp) where
  less_at : (x : A) (xs : List A) (i : ℕ) (y : A) → AllByRecursion (λ z. cmp x z ≡ Less) xs
      → slice_get xs i ≡ Some y → cmp x y ≡ Less
  less_at x [] i y h e = absurd (cc)
  less_at x (z ∷ xs) zero y h e = subst (λ z. cmp x z ≡ Less) (same_Some z y e) h.0
  less_at x (z ∷ xs) (suc i) y h e = less_at x xs i y h.1 e

  -- items compare as their places do
  pub cmp-places : (xs : List A) → IsStrictlySortedBy cmp xs → (i j : ℕ) (x y : A)
      → slice_get xs i ≡ Some x → slice_get xs j ≡ Some y → nat_cmp i j ≡ cmp x y
  unfolding IsStrictlySortedBy
  cmp-places [] h i j x y e f = absurd (cc)
  cmp-places (z ∷ xs) h zero zero x y e f =
      sym (ap₂ cmp (sym (same_Some z x e)) (sym (same_Some z y f)) ∙ tied_itself o z)
  cmp-places (z ∷ xs) h zero (suc j) x y e f =
      let l : 0 < suc j = omega arith in
      sym (nat_cmp_is 0 (suc j) Less l)
      ∙ sym (subst (λ w. cmp w y ≡ Less) (same_Some z x e) (less_at z xs j y h.0 f))
  cmp-places (z ∷ xs) h (suc i) zero x y e f =
      let l : 0 < suc i = omega arith in
      sym (nat_cmp_is (suc i) 0 Greater l)
      ∙ sym (o.antisymm x y
      ∙ ap ordering_reverse (subst (λ w. cmp w x ≡ Less) (same_Some z y f) (less_at z xs i x h.0 e)))
  cmp-places (z ∷ xs) h (suc i) (suc j) x y e f =
      nat_cmp-suc i j (nat_cmp i j) refl ∙ cmp-places xs h.1 i j x y e f

  -- no item stands at two places
  pub one_place : (xs : List A) → IsStrictlySortedBy cmp xs → (i j : ℕ) (x : A)
      → slice_get xs i ≡ Some x → slice_get xs j ≡ Some x → i ≡ j
  one_place xs h i j x e f =
      ranked i j Equal (sym (cmp-places xs h i j x x e f ∙ tied_itself o x))

-- ---- what goes with items that compare alike

module _ {A B : Type 0} {cmp : A → A → Ordering} {cmp' : B → B → Ordering} (R : A → B → Type 0)
    (alike : (x z : A) (y w : B) → R x y → R z w → cmp x z ≡ cmp' y w) where
  Match-placed : (r : Ordering) (x z : A) (xs more : List A) (y w : B) (ys rest : List B) → R x y → R z w
      → Match R xs ys → Match R more rest → Match R (placed r x z xs more) (placed r y w ys rest)
  Match-placed Less x z xs more y w ys rest p q h k = (p, (q, h))
  Match-placed Equal x z xs more y w ys rest p q h k = (q, h)
  Match-placed Greater x z xs more y w ys rest p q h k = (q, k)

  Match-put : (x : A) (xs : List A) (y : B) (ys : List B) → R x y → Match R xs ys
      → Match R (put cmp x xs) (put cmp' y ys)
  Match-put x [] y [] p h = (p, tt)
  Match-put x [] y (w ∷ ys) p h = absurd h
  Match-put x (z ∷ xs) y [] p h = absurd h
  Match-put x (z ∷ xs) y (w ∷ ys) p h =
      subst (λ r. Match R (placed (cmp x z) x z xs (put cmp x xs)) (placed r y w ys (put cmp' y ys)))
      (alike x z y w p h.0)
      (Match-placed (cmp x z) x z xs (put cmp x xs) y w ys (put cmp' y ys) p h.0 h.1 (Match-put x xs y ys p h.1))

  -- lists that go together still do when both are put in order
  pub Match-in_order : (xs : List A) (ys : List B) → Match R xs ys → Match R (in_order cmp xs) (in_order cmp' ys)
  Match-in_order [] [] h = tt
  Match-in_order [] (y ∷ ys) h = absurd h
  Match-in_order (x ∷ xs) [] h = absurd h
  Match-in_order (x ∷ xs) (y ∷ ys) h =
      Match-put x (in_order cmp xs) y (in_order cmp' ys) h.0 (Match-in_order xs ys h.1)

-- what is made of the items of a list in order is in order, where it compares as they do
module _ {A B : Type 0} (cmp : A → A → Ordering) (cmp' : B → B → Ordering) (f : A → B)
    (alike : (x z : A) → cmp x z ≡ cmp' (f x) (f z)) where
  map-placed : (r : Ordering) (x y : A) (ys rest : List A)
      → map f (placed r x y ys rest) ≡ placed r (f x) (f y) (map f ys) (map f rest)
  map-placed Less x y ys rest = refl
  map-placed Equal x y ys rest = refl
  map-placed Greater x y ys rest = refl

  map-put : (x : A) (ys : List A) → map f (put cmp x ys) ≡ put cmp' (f x) (map f ys)
  map-put x [] = refl
  map-put x (y ∷ ys) =
      map-placed (cmp x y) x y ys (put cmp x ys)
      ∙ ap₂ (λ r zs. placed r (f x) (f y) (map f ys) zs) (alike x y) (map-put x ys)

  pub map-in_order : (xs : List A) → map f (in_order cmp xs) ≡ in_order cmp' (map f xs)
  map-in_order [] = refl
  map-in_order (x ∷ xs) = map-put x (in_order cmp xs) ∙ ap (put cmp' (f x)) (map-in_order xs)

-- ---- numbers and names

same_number : (x y : ℕ) → nat_cmp x y ≡ Equal → x ≡ y
same_number x y e = ranked x y Equal (sym e)

pub number_order : IsLinearOrder nat_cmp
number_order = record { total = nat_cmp_total; one = same_number }

pub name_order : IsLinearOrder name_cmp
name_order = record {
  total = nat_list_cmp_total;
  one = λ x y e. (bytes_eq-Decides x y).0 (sym (is_eq-slice_cmp x y) ∙ ap is_eq e);
}
