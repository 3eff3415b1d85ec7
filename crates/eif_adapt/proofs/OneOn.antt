-- Loops over lists, an item on.
use Rattle.std.proofs.Common.{◌≡◌, ℕ, ◌+◌, ◌<◌, ◌≤◌, List, [], ◌∷◌, ◌++◌, length, take, get_or, sym, ap, subst, ◌∙◌}
use Rattle.std.proofs.lemmas.List.{take_more, take_all}

-- what holds of the items so far and of this one holds of the items so far
pub one_on : {A : Type 0} (P : List A → Type 0) (xs : List A) (i : ℕ) (x : A) → i < length xs → x ≡ get_or xs i x
    → P (take i xs ++ x ∷ []) → P (take (i + 1) xs)
one_on P xs i x below is here = subst P (ap (λ y. take i xs ++ y ∷ []) is ∙ sym (take_more xs i x below)) here

-- what holds of the items so far holds of all in the end
pub at_end : {A : Type 0} (P : List A → Type 0) (xs : List A) (i : ℕ) → length xs ≤ i → P (take i xs) → P xs
at_end P xs i past here = subst P (take_all i xs past) here
