-- Numbers of digits, as far as they are not too large.
use Rattle.std.proofs.Common.{◌≡◌, ℕ, ◌+◌, ◌-◌, ◌*◌, ◌==◌, if◌then◌else◌, ◌<◌, List, [], ◌∷◌, drop, get_or, length, add-one, drop-cons, fold, min, ap, sym, ◌∙◌, arith}
use Rattle.std.proofs.lemmas.Bool.Decides.{nat_tests}

abbrev pub digit_step : ℕ → ℕ → ℕ
digit_step n b = if b == 95 then n else n * 10 + (b - 48)

digit_step-min : (cap n b : ℕ) → min (digit_step (min n cap) b) cap ≡ min (digit_step n b) cap
digit_step-min cap n b = grind (arith, nat_tests)

pub fold-min : (cap n : ℕ) (ds : List ℕ) → min (fold digit_step (min n cap) ds) cap ≡ min (fold digit_step n ds) cap
fold-min cap n [] = omega arith
fold-min cap n (b ∷ ds) =
    sym (fold-min cap (digit_step (min n cap) b) ds) ∙ ap (λ m. min (fold digit_step m ds) cap) (digit_step-min cap n b) ∙ fold-min cap (digit_step n b) ds

-- one more digit is read
pub next_number : (cap n m i total : ℕ) (ds : List ℕ) → i < length ds → min (fold digit_step n (drop i ds)) cap ≡ total → m ≡ min (digit_step n (get_or ds i 0)) cap
    → min (fold digit_step m (drop (i + 1) ds)) cap ≡ total
next_number cap n m i total ds within before e =
    let front : drop i ds ≡ get_or ds i 0 ∷ drop (i + 1) ds = rw add-one (drop-cons ds i 0 within) in
    ap (λ k. min (fold digit_step k (drop (i + 1) ds)) cap) e ∙ fold-min cap (digit_step n (get_or ds i 0)) (drop (i + 1) ds)
    ∙ ap (λ l. min (fold digit_step n l) cap) (sym front) ∙ before
