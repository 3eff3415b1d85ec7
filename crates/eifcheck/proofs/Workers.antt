-- The number of workers that a word states: what it parses to, where that is written as the word.
use Rattle.std.proofs.Common.{◌≡◌, ℕ, zero, suc, ◌^◌, ◌<◌, ◌≤◌, inl, inr, Bool, true, false, List, [], ◌∷◌, Some, None, Result, Ok, arith, refl, sym, ◌∙◌}
use Rattle.std.specs.Prelude.{find, decimal}
use Rattle.std.specs.Str.{bytes_eq}
use Rattle.std.specs.Str.Parse.{ParsesUnsigned}
use Rattle.std.proofs.lemmas.Bool.{cases_lt, false_from_ne_true}
use Rattle.std.proofs.lemmas.Fmt.{decimal_injective, parse-decimal}
use Rattle.std.proofs.lemmas.List.Folds.{find-append}
use Rattle.std.proofs.lemmas.Slice.Eq.{bytes_eq-Decides}
use Rattle.eifcheck.specs.Form.{numbers_to}

find-none : (p : ℕ → Bool) (k : ℕ) → ((n : ℕ) → 1 ≤ n → n ≤ k → p n ≡ false) → find p (numbers_to k) ≡ None
find-none p zero fails = refl
find-none p (suc k) fails =
    let front = find-none p k (λ n low high. fails n low (omega arith)) in
    let last = fails (suc k) (omega arith) (omega arith) in
    find-append p (numbers_to k) (suc k ∷ []) ∙ rw (front, last) refl

find-some : (p : ℕ → Bool) (n k : ℕ) → 1 ≤ n → n ≤ k → p n ≡ true → ((m : ℕ) → m < n → p m ≡ false)
    → find p (numbers_to k) ≡ Some n
find-some p n zero low high here fails = absurd (omega arith)
find-some p n (suc k) low high here fails = elim (cases_lt n (suc k)) [
  | inl below ↦
      let front = find-some p n k low (omega arith) here fails in
      find-append p (numbers_to k) (suc k ∷ []) ∙ rw front refl
  | inr above ↦
      let e : n ≡ suc k = omega arith in
      let front = find-none p k (λ m least most. fails m (omega arith)) in
      let last = rw e at here in
      find-append p (numbers_to k) (suc k ∷ []) ∙ rw (front, last, e) refl
]

-- whether the number is written as the word
abbrev pub writes : List ℕ → ℕ → Bool
writes word n = bytes_eq (decimal n) word

-- the word is what a number of 1 to k is written as
pub find-stated : (word : List ℕ) (n k : ℕ) → 1 ≤ n → n ≤ k → k < 2 ^ 32 → decimal n ≡ word
    → find (writes word) (numbers_to k) ≡ Some n
find-stated word n k low high small is = find-some (writes word) n k low high here lower
  where
    here : writes word n ≡ true
    here = (bytes_eq-Decides (decimal n) word).1 is

    same : (m : ℕ) → m < n → writes word m ≡ true → m ≡ n
    same m below again =
        let equal = (bytes_eq-Decides (decimal m) word).0 again ∙ sym is in
        decimal_injective m n (omega arith) (omega arith) equal

    lower : (m : ℕ) → m < n → writes word m ≡ false
    lower m below = false_from_ne_true _ (λ again. let e : m ≡ n = same m below again in absurd (omega arith))

-- no number of 1 to k that the word parses to is written as the word
pub find-unstated : {E : Type 0} (word : List ℕ) (r : Result ℕ E) (k : ℕ) → k < 2 ^ 32 → ParsesUnsigned 32 10 word r
    → ((n : ℕ) → 1 ≤ n → n ≤ k → r ≡ Ok n → decimal n ≡ word → ⊥) → find (writes word) (numbers_to k) ≡ None
find-unstated word r k small parses fails = find-none (writes word) k (λ n low high.
    false_from_ne_true _ (λ same. refute n low high ((bytes_eq-Decides (decimal n) word).0 same)))
  where
    refute : (n : ℕ) → 1 ≤ n → n ≤ k → decimal n ≡ word → ⊥
    refute n low high is = fails n low high (parse-decimal 32 n word r (omega arith) (omega arith) (sym is) parses) is
