-- Counting the bodies that pass a test.
use Rattle.std.proofs.Common.{◌≡◌, ℕ, suc, ◌<◌, ◌≤◌, Bool, true, false, cond, ◌⊎◌, inl, inr, List, [], ◌∷◌, length, refl, sym, ap, ◌∙◌, arith}
use Rattle.eif_classes.specs.Entries.{Declaration}
use Rattle.eif_flow_rules.specs.CallPaths.{IsOneOf}

abbrev pub count : List Declaration → (Declaration → Bool) → ℕ
count [] p = 0
count (x ∷ xs) p = cond (p x) (suc (count xs p)) (count xs p)

le_here : (a b : Bool) (m n : ℕ) → (a ≡ true → b ≡ true) → m ≤ n → cond a (suc m) m ≤ cond b (suc n) n
le_here true true m n h l = omega arith
le_here true false m n h l = let e = h refl in cc
le_here false true m n h l = omega arith
le_here false false m n h l = l

lt_here : (a b : Bool) (m n : ℕ) → (a ≡ true → b ≡ true) → m < n → cond a (suc m) m < cond b (suc n) n
lt_here true true m n h l = omega arith
lt_here true false m n h l = let e = h refl in cc
lt_here false true m n h l = omega arith
lt_here false false m n h l = l

-- either the same here, or more
more_here : (a b : Bool) (m n : ℕ) → (a ≡ true → b ≡ true) → m ≤ n → (a ≡ b) ⊎ (cond a (suc m) m < cond b (suc n) n)
more_here true true m n h l = inl refl
more_here true false m n h l = let e = h refl in cc
more_here false true m n h l = inr (omega arith)
more_here false false m n h l = inl refl

count_le : (xs : List Declaration) (p q : Declaration → Bool) → ((x : Declaration) → p x ≡ true → q x ≡ true)
    → count xs p ≤ count xs q
count_le [] p q h = omega arith
count_le (x ∷ xs) p q h = le_here (p x) (q x) (count xs p) (count xs q) (h x) (count_le xs p q h)

pub count_most : (xs : List Declaration) (p : Declaration → Bool) → count xs p ≤ length xs
count_most [] p = omega arith
count_most (x ∷ xs) p = here (p x) (count xs p) (count_most xs p)
  where
    here : (a : Bool) (n : ℕ) → n ≤ length xs → cond a (suc n) n ≤ suc (length xs)
    here true n l = omega arith
    here false n l = omega arith

-- of two tests, where one holds wherever the other does: the same, or more often
pub same_or_more : (xs : List Declaration) (p q : Declaration → Bool) → ((x : Declaration) → p x ≡ true → q x ≡ true)
    → ((x : Declaration) → IsOneOf xs x → p x ≡ q x) ⊎ (count xs p < count xs q)
same_or_more [] p q h = inl (λ x m. absurd m)
same_or_more (y ∷ ys) p q h =
    go (same_or_more ys p q h) (more_here (p y) (q y) (count ys p) (count ys q) (h y) (count_le ys p q h))
  where
    go : (((x : Declaration) → IsOneOf ys x → p x ≡ q x) ⊎ (count ys p < count ys q))
        → ((p y ≡ q y) ⊎ (count (y ∷ ys) p < count (y ∷ ys) q))
        → ((x : Declaration) → IsOneOf (y ∷ ys) x → p x ≡ q x) ⊎ (count (y ∷ ys) p < count (y ∷ ys) q)
    go (inr l) r = inr (lt_here (p y) (q y) (count ys p) (count ys q) (h y) l)
    go (inl s) (inr l) = inr l
    go (inl s) (inl e) = inl (λ x m. elim m [ inl r ↦ ap p (sym r) ∙ (e ∙ ap q r) | inr m ↦ s x m ])

-- one that passes it beside those of the other
pub count_lt : (xs : List Declaration) (p q : Declaration → Bool) → ((x : Declaration) → p x ≡ true → q x ≡ true)
    → (x : Declaration) → IsOneOf xs x → p x ≡ false → q x ≡ true → count xs p < count xs q
count_lt xs p q h x m a b = elim (same_or_more xs p q h) [ inl s ↦ (let e = s x m in cc) | inr l ↦ l ]

pub count_below : (xs : List Declaration) (p : Declaration → Bool) (x : Declaration) → IsOneOf xs x → p x ≡ false
    → count xs p < length xs
count_below xs p x m a =
    let l = count_lt xs p (λ x. true) (λ x h. refl) x m a refl in
    let k = count_most xs (λ x. true) in omega arith
