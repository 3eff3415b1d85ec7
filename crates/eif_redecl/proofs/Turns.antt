-- Loops over lists, an item on.
use Rattle.std.proofs.Common.{◌≡◌, ℕ, ◌+◌, ◌<◌, List, [], ◌∷◌, ◌++◌, get_or, length, map, take, Some, sym, ap, subst, ◌∙◌}
use Rattle.std.specs.Prelude.{slice_get}
use Rattle.std.proofs.lemmas.List.{map-append, take-map}
use Rattle.eif_adapt.proofs.OneOn.{one_on}
use Rattle.eif_derivations.proofs.Turns.{take_place}

-- where the list is made of another
pub one_on_map : {A B : Type 0} (f : A → B) (P : List B → Type 0) (xs : List A) (i : ℕ) (x : A) → i < length xs →
    x ≡ get_or xs i x → P (take i (map f xs) ++ f x ∷ []) → P (take (i + 1) (map f xs))
one_on_map f P xs i x below is here =
    subst P (sym (take-map f (i + 1) xs))
    (one_on (λ ys. P (map f ys)) xs i x below is
    (subst P (ap (λ ys. ys ++ f x ∷ []) (take-map f i xs) ∙ sym (map-append f (take i xs) (x ∷ []))) here))

-- where the item is at its place
pub one_on_at : {A : Type 0} (P : List A → Type 0) (xs : List A) (i : ℕ) (x : A) → slice_get xs i ≡ Some x →
    P (take i xs ++ x ∷ []) → P (take (i + 1) xs)
one_on_at P xs i x at here = subst P (sym (take_place xs i x at)) here
