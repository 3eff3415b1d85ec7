-- Loops over all classes, a class on.
use Rattle.std.proofs.Common.{◌≡◌, ℕ, zero, suc, ◌+◌, List, [], ◌∷◌, ◌++◌, map, drop, Some, sym, ap, subst, ◌∙◌, append_assoc, arith}
use Rattle.std.proofs.lemmas.List.{map-append}
use Rattle.std.proofs.lemmas.Option.{same_Some}
use Rattle.std.specs.List.{enumerate_from, flat_map}
use Rattle.std.specs.Prelude.{slice_get}
use Rattle.eif_base.specs.declared.fault.Fault.{Fault}

drop_here : {A : Type 0} (xs : List A) (i : ℕ) (x : A) → slice_get xs i ≡ Some x → drop i xs ≡ x ∷ drop (suc i) xs
drop_here [] i x e = cc
drop_here (y ∷ xs) zero x e = ap (λ y. y ∷ xs) (same_Some y x e)
drop_here (y ∷ xs) (suc i) x e = drop_here xs i x e

-- what is left behind an item
pub left_behind : {A : Type 0} (xs : List A) (i : ℕ) (x : A) → slice_get xs i ≡ Some x →
    drop i xs ≡ x ∷ drop (i + 1) xs
left_behind xs i x e =
    let n : suc i ≡ i + 1 = omega arith in subst (λ (n : ℕ). drop i xs ≡ x ∷ drop n xs) n (drop_here xs i x e)

-- a list that is made beside another one
pub one_listed : {A B C : Type 0} (V : A → C) (F : B → C) (all new : List A) (ys : List B) (i : ℕ) (x : A) (y : B) →
    slice_get ys i ≡ Some y → new ≡ all ++ x ∷ [] → V x ≡ F y → map V all ++ map F (drop i ys) ≡ map F ys →
    map V new ++ map F (drop (i + 1) ys) ≡ map F ys
one_listed V F all new ys i x y at pushed same so_far =
    ap (λ zs. zs ++ map F (drop (i + 1) ys)) (ap (map V) pushed ∙ map-append V all (x ∷ []))
    ∙ (append_assoc (map V all) (V x ∷ []) (map F (drop (i + 1) ys))
    ∙ (ap (λ z. map V all ++ z ∷ map F (drop (i + 1) ys)) same
    ∙ (ap (λ zs. map V all ++ map F zs) (sym (left_behind ys i y at)) ∙ so_far)))

-- the faults of items with their numbers
pub one_judged : {A : Type 0} (judge : ℕ × A → List Fault) (xs : List A) (i : ℕ) (x : A) (out new whole : List Fault) →
    slice_get xs i ≡ Some x → new ≡ out ++ judge (i, x) →
    out ++ flat_map judge (enumerate_from i (drop i xs)) ≡ whole →
    new ++ flat_map judge (enumerate_from (i + 1) (drop (i + 1) xs)) ≡ whole
one_judged judge xs i x out new whole at is so_far =
    let rest = flat_map judge (enumerate_from (i + 1) (drop (i + 1) xs)) in
    ap (λ fs. fs ++ rest) is
    ∙ (append_assoc out (judge (i, x)) rest
    ∙ (ap (λ ys. out ++ flat_map judge (enumerate_from i ys)) (sym (left_behind xs i x at)) ∙ so_far))
