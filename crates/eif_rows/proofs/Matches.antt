-- Lists that go together, item by item: their lengths, places, ends and parts.
use Rattle.std.proofs.Common.{◌≡◌, ℕ, zero, suc, List, [], ◌∷◌, ◌++◌, length, map, Some, refl, ap, ap₂, subst}
use Rattle.std.proofs.lemmas.Option.{same_Some}
use Rattle.std.specs.Prelude.{slice_get}
use Rattle.eif_rows.specs.Matched.{Match}

module _ {A B : Type 0} (R : A → B → Type 0) where
  pub length-Match : (xs : List A) (ys : List B) → Match R xs ys → length xs ≡ length ys
  length-Match [] [] h = refl
  length-Match [] (y ∷ ys) h = absurd h
  length-Match (x ∷ xs) [] h = absurd h
  length-Match (x ∷ xs) (y ∷ ys) h = ap suc (length-Match xs ys h.1)

  -- the item that goes with the one at a place
  pub Match-at : (xs : List A) (ys : List B) → Match R xs ys → (i : ℕ) (x : A) → slice_get xs i ≡ Some x
      → (y : B) × (slice_get ys i ≡ Some y) × R x y
  Match-at [] ys h i x e = absurd (cc)
  Match-at (z ∷ xs) [] h i x e = absurd h
  Match-at (z ∷ xs) (y ∷ ys) h zero x e = (y, refl, subst (λ z. R z y) (same_Some z x e) h.0)
  Match-at (z ∷ xs) (y ∷ ys) h (suc i) x e = Match-at xs ys h.1 i x e

  pub Match-at_second : (xs : List A) (ys : List B) → Match R xs ys → (i : ℕ) (y : B) → slice_get ys i ≡ Some y
      → (x : A) × (slice_get xs i ≡ Some x) × R x y
  Match-at_second xs [] h i y e = absurd (cc)
  Match-at_second [] (z ∷ ys) h i y e = absurd h
  Match-at_second (x ∷ xs) (z ∷ ys) h zero y e = (x, refl, subst (R x) (same_Some z y e) h.0)
  Match-at_second (x ∷ xs) (z ∷ ys) h (suc i) y e = Match-at_second xs ys h.1 i y e

  -- items that stand at one place go together
  pub Match-at_both : (xs : List A) (ys : List B) → Match R xs ys → (i : ℕ) (x : A) (y : B)
      → slice_get xs i ≡ Some x → slice_get ys i ≡ Some y → R x y
  Match-at_both [] ys h i x y e f = absurd (cc)
  Match-at_both (z ∷ xs) [] h i x y e f = absurd h
  Match-at_both (z ∷ xs) (w ∷ ys) h zero x y e f =
      subst (λ z. R z y) (same_Some z x e) (subst (R z) (same_Some w y f) h.0)
  Match-at_both (z ∷ xs) (w ∷ ys) h (suc i) x y e f = Match-at_both xs ys h.1 i x y e f

  -- equally long lists whose items go together at each place
  pub Match-from_places : (xs : List A) (ys : List B) → length xs ≡ length ys
      → ((i : ℕ) (x : A) (y : B) → slice_get xs i ≡ Some x → slice_get ys i ≡ Some y → R x y) → Match R xs ys
  Match-from_places [] [] long each = tt
  Match-from_places [] (y ∷ ys) long each = absurd (cc)
  Match-from_places (x ∷ xs) [] long each = absurd (cc)
  Match-from_places (x ∷ xs) (y ∷ ys) long each =
      (each zero x y refl refl, Match-from_places xs ys (cc) (λ i. each (suc i)))

  -- ---- parts

  pub Match-append : (xs : List A) (ys : List B) (vs : List A) (ws : List B)
      → Match R xs ys → Match R vs ws → Match R (xs ++ vs) (ys ++ ws)
  Match-append [] [] vs ws h k = k
  Match-append [] (y ∷ ys) vs ws h k = absurd h
  Match-append (x ∷ xs) [] vs ws h k = absurd h
  Match-append (x ∷ xs) (y ∷ ys) vs ws h k = (h.0, Match-append xs ys vs ws h.1 k)

  -- one item more at the end of each
  pub Match-push : (xs : List A) (ys : List B) (x : A) (y : B)
      → Match R xs ys → R x y → Match R (xs ++ x ∷ []) (ys ++ y ∷ [])
  Match-push xs ys x y h r = Match-append xs ys (x ∷ []) (y ∷ []) h (r, tt)

  -- what goes with two lists, one after the other
  pub Match-parts : (xs vs : List A) (ys : List B) → Match R (xs ++ vs) ys
      → (us : List B) × (ws : List B) × (ys ≡ us ++ ws) × Match R xs us × Match R vs ws
  Match-parts [] vs ys h = ([], ys, refl, tt, h)
  Match-parts (x ∷ xs) vs [] h = absurd h
  Match-parts (x ∷ xs) vs (y ∷ ys) h =
      let p = Match-parts xs vs ys h.1 in
      (y ∷ p.0, p.1, ap (λ zs. y ∷ zs) p.2, (h.0, p.3), p.4)

  -- ---- lists that are made of others

  -- each item of a list goes with what is made of it
  pub Match-map : (f : A → B) (xs : List A) → ((x : A) → R x (f x)) → Match R xs (map f xs)
  Match-map f [] each = tt
  Match-map f (x ∷ xs) each = (each x, Match-map f xs each)

-- what follows item by item
pub Match-weaken : {A B : Type 0} (R S : A → B → Type 0) → ((x : A) (y : B) → R x y → S x y)
    → (xs : List A) (ys : List B) → Match R xs ys → Match S xs ys
Match-weaken R S f [] [] h = tt
Match-weaken R S f [] (y ∷ ys) h = absurd h
Match-weaken R S f (x ∷ xs) [] h = absurd h
Match-weaken R S f (x ∷ xs) (y ∷ ys) h = (f x y h.0, Match-weaken R S f xs ys h.1)

-- lists of which the same is made, item by item
pub map-from_Match : {A B C : Type 0} (f : A → C) (g : B → C) (xs : List A) (ys : List B)
    → Match (λ x y. f x ≡ g y) xs ys → map f xs ≡ map g ys
map-from_Match f g [] [] h = refl
map-from_Match f g [] (y ∷ ys) h = absurd h
map-from_Match f g (x ∷ xs) [] h = absurd h
map-from_Match f g (x ∷ xs) (y ∷ ys) h = ap₂ ◌∷◌ h.0 (map-from_Match f g xs ys h.1)

pub Match-from_map : {A B C : Type 0} (f : A → C) (g : B → C) (xs : List A) (ys : List B)
    → map f xs ≡ map g ys → Match (λ x y. f x ≡ g y) xs ys
Match-from_map f g [] [] e = tt
Match-from_map f g [] (y ∷ ys) e = absurd (cc)
Match-from_map f g (x ∷ xs) [] e = absurd (cc)
Match-from_map f g (x ∷ xs) (y ∷ ys) e =
    (cc, Match-from_map f g xs ys (cc))
