-- What holds of each item of a list.
use Rattle.std.proofs.Common.{◌≡◌, zero, suc, List, [], ◌∷◌, ◌++◌, flat_map, Option, Some, None, subst, refl}
use Rattle.eif_spelled_trees.specs.SpelledTrees.{Each}
use Rattle.eif_spelled_laws.proofs.Tests.{some_same}

pub each_none : {A : Type 0} (P : A → Type 0) → Each P []
each_none {A} P i x e = let clash : ◌≡◌ {A = Option A} None (Some x) = e in cc

pub each_and : {A : Type 0} (P : A → Type 0) (x : A) (xs : List A) → P x → Each P xs → Each P (x ∷ xs)
each_and P x xs h more zero y e = subst P (some_same e) h
each_and P x xs h more (suc i) y e = more i y e

pub each_append : {A : Type 0} (P : A → Type 0) (xs ys : List A) → Each P xs → Each P ys → Each P (xs ++ ys)
each_append P [] ys h more = more
each_append P (x ∷ xs) ys h more =
    each_and P x (xs ++ ys) (h 0 x refl) (each_append P xs ys (λ i. h (suc i)) more)

pub each_flat : {A B : Type 0} (P : A → Type 0) (f : B → List A) (bs : List B) → Each (λ b. Each P (f b)) bs
    → Each P (flat_map f bs)
each_flat P f [] h = each_none P
each_flat P f (b ∷ bs) h = each_append P (f b) (flat_map f bs) (h 0 b refl) (each_flat P f bs (λ i. h (suc i)))
