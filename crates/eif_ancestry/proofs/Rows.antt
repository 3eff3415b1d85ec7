-- Lists of ancestors, one for each class.
use Rattle.std.proofs.Common.{◌≡◌, ℕ, zero, suc, ◌+◌, List, [], ◌∷◌, ◌++◌, length, Some, refl, sym, ap, subst, ◌∙◌, arith}
use Rattle.std.specs.Prelude.{slice_get}
use Rattle.eif_system.specs.Graph.{IsProperAncestor}
use Rattle.eif_ancestry.specs.Ancestries.{IsRisingListOf}

pub length_push : {A : Type 0} (xs : List A) (x : A) → length (xs ++ x ∷ []) ≡ length xs + 1
length_push [] x = refl
length_push (y ∷ xs) x = let h = length_push xs x in omega arith

-- what stands in a list with one more at its end
push_cases : {A : Type 0} (P : Type 0) (xs : List A) (x : A) (i : ℕ) (a : A) → slice_get (xs ++ x ∷ []) i ≡ Some a
    → (slice_get xs i ≡ Some a → P) → (i ≡ length xs → x ≡ a → P) → P
push_cases P [] x zero a e f g = let q : x ≡ a = cc in g refl q
push_cases P [] x (suc i) a e f g = cc
push_cases P (y ∷ xs) x zero a e f g = f e
push_cases P (y ∷ xs) x (suc i) a e f g = push_cases P xs x i a e f (λ p q. g (ap suc p) q)

-- the list of one class more
pub one_list_more : (g : List (List ℕ)) (d : ℕ) (rows more : List (List ℕ)) (xs : List ℕ) → length rows ≡ d
    → ((k : ℕ) (ys : List ℕ) → slice_get rows k ≡ Some ys → IsRisingListOf (IsProperAncestor g k) ys)
    → IsRisingListOf (IsProperAncestor g d) xs → more ≡ rows ++ xs ∷ []
    → (length more ≡ d + 1)
    × ((k : ℕ) (ys : List ℕ) → slice_get more k ≡ Some ys → IsRisingListOf (IsProperAncestor g k) ys)
one_list_more g d rows more xs long each is e = (
  ap length e ∙ (length_push rows xs ∙ ap (λ n. n + 1) long),
  λ k ys at. push_cases (IsRisingListOf (IsProperAncestor g k) ys) rows xs k ys
      (sym (ap (λ rs. slice_get rs k) e) ∙ at)
      (λ q. each k ys q)
      (λ q t. subst (λ ys. IsRisingListOf (IsProperAncestor g k) ys) t
      (subst (λ k. IsRisingListOf (IsProperAncestor g k) xs) (sym (q ∙ long)) is)),
)
