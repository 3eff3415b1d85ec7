-- What holds of each item of lists that are made of others, and searches by a name.
use Rattle.std.proofs.Common.{◌≡◌, Bool, true, false, List, [], ◌∷◌, ◌++◌, map, Some, refl, sym, ap, ap₂, ◌∙◌}
use Rattle.std.specs.List.{flat_map, filter, list_any}
use Rattle.std.specs.Prelude.{cond, find, ◌||◌}
use Rattle.std.proofs.lemmas.List.Folds.{list_any-append}
use Rattle.eif_lineage_laws.proofs.EachItem.{AllOf}

pub all_mapped : {A B : Type 0} (f : A → B) (P : B → Type 0) (xs : List A) → AllOf (λ x. P (f x)) xs →
    AllOf P (map f xs)
all_mapped f P [] h = tt
all_mapped f P (x ∷ xs) h = (h.0, all_mapped f P xs h.1)

-- of all that may be in a list
pub all_any : {A : Type 0} (P : A → Type 0) (xs : List A) → ((x : A) → P x) → AllOf P xs
all_any P [] f = tt
all_any P (x ∷ xs) f = (f x, all_any P xs f)

pub all_filtered : {A : Type 0} (P : A → Type 0) (test : A → Bool) (xs : List A) → AllOf P xs →
    AllOf P (filter test xs)
all_filtered P test [] h = tt
all_filtered {A} P test (x ∷ xs) h = go (test x) (all_filtered P test xs h.1)
  where
    go : (b : Bool) → AllOf P (filter test xs) → AllOf P (cond b (x ∷ filter test xs) (filter test xs))
    go true later = (h.0, later)
    go false later = later

-- no item passes
pub none_pass : {A : Type 0} (test : A → Bool) (xs : List A) → AllOf (λ x. test x ≡ false) xs → filter test xs ≡ []
none_pass test [] h = refl
none_pass test (x ∷ xs) h = ap (λ b. cond b (x ∷ filter test xs) (filter test xs)) h.0 ∙ none_pass test xs h.1

-- no item has a part
pub no_parts : {A B : Type 0} (f : A → List B) (xs : List A) → AllOf (λ x. f x ≡ []) xs → flat_map f xs ≡ []
no_parts f [] h = refl
no_parts f (x ∷ xs) h = ap₂ ◌++◌ h.0 (no_parts f xs h.1)

-- where a part of some item passes, a search finds such an item
pub finds : {X Y : Type 0} (test : Y → Bool) (parts : X → List Y) (xs : List X) →
    list_any test (flat_map parts xs) ≡ true → (x : X) × (find (λ x. list_any test (parts x)) xs ≡ Some x)
finds test parts [] h = cc
finds {X} test parts (x ∷ xs) h =
    go (list_any test (parts x)) (sym (list_any-append test (parts x) (flat_map parts xs)) ∙ h) (finds test parts xs)
  where
    go : (b : Bool) → (b || list_any test (flat_map parts xs)) ≡ true →
        (list_any test (flat_map parts xs) ≡ true → (y : X) × (find (λ x. list_any test (parts x)) xs ≡ Some y)) →
        (y : X) × (cond b (Some x) (find (λ x. list_any test (parts x)) xs) ≡ Some y)
    go true h later = (x, refl)
    go false h later = later h
