-- Loops that make a list beside another, an item on.
use Rattle.std.proofs.Common.{◌≡◌, ℕ, ◌+◌, ◌≤◌, List, [], ◌∷◌, ◌++◌, length, take, Some, sym, ap, subst, ◌∙◌}
use Rattle.std.specs.Prelude.{slice_get}
use Rattle.std.proofs.lemmas.List.{take_all, take_more}
use Rattle.std.proofs.lemmas.Option.{get_or_from_slice_get, slice_get_within}
use Rattle.eif_rows.specs.Matched.{Match}
use Rattle.eif_rows.proofs.Matches.{Match-push}

-- the items so far and the one at the place
pub take_place : {A : Type 0} (ys : List A) (i : ℕ) (y : A) → slice_get ys i ≡ Some y
    → take (i + 1) ys ≡ take i ys ++ y ∷ []
take_place ys i y at =
    take_more ys i y (slice_get_within ys i y at)
    ∙ ap (λ z. take i ys ++ z ∷ []) (get_or_from_slice_get ys i y y at)

module _ {A B : Type 0} (R : A → B → Type 0) (ys : List B) (i : ℕ) where
  pub Match-more : (old new : List A) (x : A) (y : B) → new ≡ old ++ x ∷ [] → slice_get ys i ≡ Some y
      → Match R old (take i ys) → R x y → Match R new (take (i + 1) ys)
  Match-more old new x y pushed at so_far here =
      subst (λ xs. Match R xs (take (i + 1) ys)) (sym pushed)
      (subst (Match R (old ++ x ∷ [])) (sym (take_place ys i y at)) (Match-push R old (take i ys) x y so_far here))

  pub Match-all : (xs : List A) → length ys ≤ i → Match R xs (take i ys) → Match R xs ys
  Match-all xs past so_far = subst (Match R xs) (take_all i ys past) so_far
