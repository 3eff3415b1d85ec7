-- Texts and their places in a numbering.
use Rattle.std.proofs.Common.{◌≡◌, ℕ, zero, suc, Bool, true, false, true≢false, List, [], ◌∷◌, ◌++◌, length}
use Rattle.std.proofs.Common.{Some, refl, sym, ap, ◌∙◌}
use Rattle.std.specs.Prelude.{◌||◌, if◌then◌else◌, slice_get}
use Rattle.std.specs.Str.{bytes_eq}
use Rattle.std.proofs.lemmas.Slice.Eq.{bytes_eq-Decides}
use Rattle.eif_base.specs.Numbering.{is_among, with_text, IsNumbering}

or_true : (b : Bool) → (b || true) ≡ true
or_true true = refl
or_true false = refl

same : (t : List ℕ) → bytes_eq t t ≡ true
same t = (bytes_eq-Decides t t).1 refl

-- a text that has a place stands in the list
pub stands : (ts : List (List ℕ)) (t : List ℕ) (i : ℕ) → slice_get ts i ≡ Some t → is_among ts t ≡ true
stands [] t i e = cc
stands (x ∷ ts) t zero e = let q : x ≡ t = cc in rw q (rw (same t) refl)
stands (x ∷ ts) t (suc i) e = rw (stands ts t i e) (or_true (bytes_eq t x))

-- a text that stands in the list has a place
pub place : (ts : List (List ℕ)) (t : List ℕ) → is_among ts t ≡ true → (i : ℕ) × (slice_get ts i ≡ Some t)
place [] t e = cc
place (x ∷ ts) t e = go (bytes_eq t x) refl (λ h. place ts t h)
  where
    go : (b : Bool) → bytes_eq t x ≡ b → (is_among ts t ≡ true → (i : ℕ) × (slice_get ts i ≡ Some t))
        → (i : ℕ) × (slice_get (x ∷ ts) i ≡ Some t)
    go true h behind = (zero, ap Some (sym ((bytes_eq-Decides t x).0 h)))
    go false h behind =
        let r = behind (sym (ap (λ b. b || is_among ts t) h) ∙ e) in
        (suc r.0, r.1)

get_front : (ts us : List (List ℕ)) (t : List ℕ) (i : ℕ) → slice_get ts i ≡ Some t → slice_get (ts ++ us) i ≡ Some t
get_front [] us t i e = cc
get_front (x ∷ ts) us t zero e = e
get_front (x ∷ ts) us t (suc i) e = get_front ts us t i e

-- each text keeps its number
pub keeps : (ts : List (List ℕ)) (new t : List ℕ) (i : ℕ) → slice_get ts i ≡ Some t
    → slice_get (with_text ts new) i ≡ Some t
keeps ts new t i e = go (is_among ts new)
  where
    go : (b : Bool) → slice_get (if b then ts else ts ++ new ∷ []) i ≡ Some t
    go true = e
    go false = get_front ts (new ∷ []) t i e

-- a text that goes last has the number of those before it
pub last : (ts : List (List ℕ)) (t : List ℕ) → slice_get (ts ++ t ∷ []) (length ts) ≡ Some t
last [] t = refl
last (x ∷ ts) t = last ts t

-- a place in a list with one text more
push_cases : (P : Type 0) (ts : List (List ℕ)) (new t : List ℕ) (i : ℕ) → slice_get (ts ++ new ∷ []) i ≡ Some t
    → (slice_get ts i ≡ Some t → P) → (i ≡ length ts → new ≡ t → P) → P
push_cases P [] new t zero e a b = let q : new ≡ t = cc in b refl q
push_cases P [] new t (suc i) e a b = cc
push_cases P (x ∷ ts) new t zero e a b = a e
push_cases P (x ∷ ts) new t (suc i) e a b = push_cases P ts new t i e a (λ p q. b (ap suc p) q)

-- an absent text may go last
pub numbering_more : (ts : List (List ℕ)) (new : List ℕ) → is_among ts new ≡ false → IsNumbering ts
    → IsNumbering (ts ++ new ∷ [])
numbering_more ts new absent once i j t p q =
    push_cases (i ≡ j) ts new t i p
    (λ a. push_cases (i ≡ j) ts new t j q (λ b. once i j t a b) (λ e s. absurd (is_absent i s a)))
    (λ e s. push_cases (i ≡ j) ts new t j q (λ b. absurd (is_absent j s b)) (λ f r. e ∙ sym f))
  where
    is_absent : (k : ℕ) → new ≡ t → slice_get ts k ≡ Some t → ⊥
    is_absent k s a = true≢false (sym (stands ts new k (a ∙ ap Some (sym s))) ∙ absent)

-- a text that goes last is told last
test_last : (ts : List (List ℕ)) (new t : List ℕ) → is_among (ts ++ new ∷ []) t ≡ (bytes_eq t new || is_among ts t)
test_last [] new t = refl
test_last (x ∷ ts) new t =
    ap (λ b. bytes_eq t x || b) (test_last ts new t) ∙ swap (bytes_eq t x) (bytes_eq t new) (is_among ts t)
  where
    swap : (a b c : Bool) → (a || (b || c)) ≡ (b || (a || c))
    swap true true c = refl
    swap true false c = refl
    swap false b c = refl

-- exactly the old texts and the new one stand in the list
pub test_with_text : (ts : List (List ℕ)) (new t : List ℕ)
    → is_among (with_text ts new) t ≡ (bytes_eq t new || is_among ts t)
test_with_text ts new t = go (is_among ts new) refl
  where
    known : is_among ts new ≡ true → (b : Bool) → bytes_eq t new ≡ b → is_among ts t ≡ (b || is_among ts t)
    known h true e = ap (is_among ts) ((bytes_eq-Decides t new).0 e) ∙ h
    known h false e = refl

    go : (b : Bool) → is_among ts new ≡ b
        → is_among (if b then ts else ts ++ new ∷ []) t ≡ (bytes_eq t new || is_among ts t)
    go true h = known h (bytes_eq t new) refl
    go false h = test_last ts new t
