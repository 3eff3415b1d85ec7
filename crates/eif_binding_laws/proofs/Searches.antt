-- What is found in lists, and names in lists of names.
use Rattle.std.proofs.Common.{◌≡◌, ℕ, Bool, true, false, List, [], ◌∷◌, ◌++◌, map, Some, refl, sym, ap, subst, ◌∙◌}
use Rattle.std.proofs.lemmas.Option.{same_Some}
use Rattle.std.proofs.lemmas.Slice.Eq.{bytes_eq-Decides}
use Rattle.std.specs.List.{filter}
use Rattle.std.specs.Prelude.{cond, find, ◌||◌}
use Rattle.std.specs.Str.{bytes_eq}
use Rattle.eif_ancestry.proofs.Members.{or_cases, or_left, or_right}
use Rattle.eif_base.specs.Numbering.{is_among}
use Rattle.eif_lineage_laws.proofs.EachItem.{AllOf}

pub same_bytes : (a b : List ℕ) → bytes_eq a b ≡ true → a ≡ b
same_bytes a b = (bytes_eq-Decides a b).0

pub bytes_same : (a : List ℕ) → bytes_eq a a ≡ true
bytes_same a = (bytes_eq-Decides a a).1 refl

-- equal the other way round
pub turned : (a b : List ℕ) → bytes_eq b a ≡ true → bytes_eq a b ≡ true
turned a b e = (bytes_eq-Decides a b).1 (sym (same_bytes b a e))

pub apart : (b : Bool) → b ≡ true → b ≡ false → ⊥
apart true t f = cc
apart false t f = cc

-- what is found has what all items have, and passes
pub found_has : {A : Type 0} (P : A → Type 0) (test : A → Bool) (xs : List A) (y : A) → AllOf P xs →
    find test xs ≡ Some y → P y
found_has P test [] y all e = cc
found_has {A} P test (x ∷ xs) y all e = go (test x) e (λ k. found_has P test xs y all.1 k)
  where
    go : (b : Bool) → cond b (Some x) (find test xs) ≡ Some y → (find test xs ≡ Some y → P y) → P y
    go true e later = subst P (same_Some x y e) all.0
    go false e later = later e

pub found_passes : {A : Type 0} (test : A → Bool) (xs : List A) (y : A) → find test xs ≡ Some y → test y ≡ true
found_passes test [] y e = cc
found_passes {A} test (x ∷ xs) y e = go (test x) refl e (λ k. found_passes test xs y k)
  where
    go : (b : Bool) → test x ≡ b → cond b (Some x) (find test xs) ≡ Some y → (find test xs ≡ Some y → test y ≡ true) →
        test y ≡ true
    go true t e later = subst (λ y. test y ≡ true) (same_Some x y e) t
    go false t e later = later e

-- ---- names among names

pub among_append : (xs ys : List (List ℕ)) (n : List ℕ) → is_among (xs ++ ys) n ≡ (is_among xs n || is_among ys n)
among_append [] ys n = refl
among_append (x ∷ xs) ys n = ap (λ b. bytes_eq n x || b) (among_append xs ys n) ∙ grouped (bytes_eq n x)
  where
    grouped : (a : Bool) → (a || (is_among xs n || is_among ys n)) ≡ ((a || is_among xs n) || is_among ys n)
    grouped true = refl
    grouped false = refl

pub among_filter : (test : List ℕ → Bool) (ns : List (List ℕ)) (n : List ℕ) → is_among (filter test ns) n ≡ true →
    is_among ns n ≡ true
among_filter test [] n h = h
among_filter test (m ∷ ns) n h = go (test m) h (among_filter test ns n)
  where
    go : (b : Bool) → is_among (cond b (m ∷ filter test ns) (filter test ns)) n ≡ true →
        (is_among (filter test ns) n ≡ true → is_among ns n ≡ true) → (bytes_eq n m || is_among ns n) ≡ true
    go true h later = or_cases _ (bytes_eq n m) (is_among (filter test ns) n) h (or_left _ _)
        (λ r. or_right (bytes_eq n m) _ (later r))
    go false h later = or_right (bytes_eq n m) _ (later h)

pub map_append : {A B : Type 0} (f : A → B) (xs ys : List A) → map f (xs ++ ys) ≡ map f xs ++ map f ys
map_append f [] ys = refl
map_append f (x ∷ xs) ys = ap (λ zs. f x ∷ zs) (map_append f xs ys)
