-- Lists whose items go together, and what tests find in them.
use Rattle.std.proofs.Common.{◌≡◌, Bool, true, false, cond, List, [], ◌∷◌, Option, Some, None, refl, ap₂}
use Rattle.std.specs.Prelude.{◌||◌, slice_get}
use Rattle.std.specs.List.{find, list_any}
use Rattle.std.specs.Option.{option_or}
use Rattle.eif_rows.specs.Matched.{Match}

-- neither is there, or both are and go together
abbrev pub Both : {A B : Type 0} → (A → B → Type 0) → Option A → Option B → Type 0
Both Goes None None = Unit {0}
Both Goes (Some x) (Some y) = Goes x y
Both Goes None (Some y) = ⊥
Both Goes (Some x) None = ⊥

module _ {A B : Type 0} (R : A → B → Type 0) where
  pub Both-cond : (b c : Bool) → b ≡ c → (x : A) (y : B) → R x y → (o : Option A) (q : Option B) → Both R o q
      → Both R (cond b (Some x) o) (cond c (Some y) q)
  Both-cond true true e x y r o q h = r
  Both-cond false false e x y r o q h = h
  Both-cond true false e x y r o q h = absurd (cc)
  Both-cond false true e x y r o q h = absurd (cc)

  pub Both-or : (o p : Option A) (q r : Option B) → Both R o q → Both R p r → Both R (option_or o p) (option_or q r)
  Both-or None p None r h k = k
  Both-or (Some x) p (Some y) r h k = h
  Both-or None p (Some y) r h k = absurd h
  Both-or (Some x) p None r h k = absurd h

  pub Both-first : (xs : List A) (ys : List B) → Match R xs ys → Both R (slice_get xs 0) (slice_get ys 0)
  Both-first [] [] h = tt
  Both-first (x ∷ xs) (y ∷ ys) h = h.0
  Both-first [] (y ∷ ys) h = absurd h
  Both-first (x ∷ xs) [] h = absurd h

  module _ (p : A → Bool) (q : B → Bool) (agree : (x : A) (y : B) → R x y → p x ≡ q y) where
    pub Both-find : (xs : List A) (ys : List B) → Match R xs ys → Both R (find p xs) (find q ys)
    Both-find [] [] h = tt
    Both-find (x ∷ xs) (y ∷ ys) h =
        Both-cond (p x) (q y) (agree x y h.0) x y h.0 (find p xs) (find q ys) (Both-find xs ys h.1)
    Both-find [] (y ∷ ys) h = absurd h
    Both-find (x ∷ xs) [] h = absurd h

    pub list_any-Match : (xs : List A) (ys : List B) → Match R xs ys → list_any p xs ≡ list_any q ys
    list_any-Match [] [] h = refl
    list_any-Match (x ∷ xs) (y ∷ ys) h = ap₂ ◌||◌ (agree x y h.0) (list_any-Match xs ys h.1)
    list_any-Match [] (y ∷ ys) h = absurd h
    list_any-Match (x ∷ xs) [] h = absurd h

  -- what goes with an item that is there
  pub Both-some : (x : A) (q : Option B) → Both R (Some x) q → (y : B) × (q ≡ Some y) × R x y
  Both-some x (Some y) h = (y, refl, h)
  Both-some x None h = absurd h
