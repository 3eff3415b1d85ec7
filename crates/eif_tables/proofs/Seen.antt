-- The names that are seen while all names are collected.
use Rattle.std.proofs.Common.{◌≡◌, ℕ, zero, suc, ◌<◌, Bool, true, false, List, [], ◌∷◌, ◌++◌, length, map, take, Some}
use Rattle.std.proofs.Common.{refl, sym, ap, ap₂, subst, ◌∙◌, arith}
use Rattle.std.specs.Prelude.{◌||◌, slice_get, if◌then◌else◌, not}
use Rattle.std.specs.Str.{bytes_eq}
use Rattle.std.proofs.lemmas.List.Folds.{list_any-append}
use Rattle.std.proofs.lemmas.Option.{slice_get_within}
use Rattle.eif_base.specs.Numbering.{is_among, with_text, IsNumbering}
use Rattle.eif_classes.specs.Names.{name_set}
use Rattle.eif_rows.proofs.NameSets.{is_among-name_set, place-from_is_among, rising-name_set, same_names}

-- one name of those to come is seen
pub or_moved : (rest one seen all : Bool) → ((one || rest) || seen) ≡ all → (rest || (one || seen)) ≡ all
or_moved true true seen all e = e
or_moved false true seen all e = e
or_moved rest false seen all e = e

-- the names of one list of those to come are seen
pub or_joined : (rest some seen all : Bool) → ((some || rest) || seen) ≡ all → (rest || (some || seen)) ≡ all
or_joined rest some seen all e = or_moved rest some seen all e

-- lists with the same names make one set
pub same_set : (ns ms : List (List ℕ)) → ((n : List ℕ) → is_among ns n ≡ is_among ms n) → name_set ns ≡ name_set ms
same_set ns ms same = same_names (name_set ns) (name_set ms) (rising-name_set ns) (rising-name_set ms)
    (λ n. is_among-name_set ns n ∙ (same n ∙ sym (is_among-name_set ms n)))

get-take : {A : Type 0} (i j : ℕ) (xs : List A) (x : A) → slice_get (take i xs) j ≡ Some x
    → (j < i) × (slice_get xs j ≡ Some x)
get-take zero j xs x e = absurd (cc)
get-take (suc i) j [] x e = absurd (cc)
get-take (suc i) zero (y ∷ xs) x e = (omega arith, e)
get-take (suc i) (suc j) (y ∷ xs) x e = let r = get-take i j xs x e in let l = r.0 in (omega arith, r.1)

-- a text of a numbering is none of those before it
pub none_before : (ts : List (List ℕ)) → IsNumbering ts → (i : ℕ) (t : List ℕ) → slice_get ts i ≡ Some t
    → is_among (take i ts) t ≡ false
none_before ts once i t at = go (is_among (take i ts) t) refl
  where
    go : (b : Bool) → is_among (take i ts) t ≡ b → is_among (take i ts) t ≡ false
    go true e =
        let place = place-from_is_among (take i ts) t e in
        let before = get-take i place.0 ts t place.1 in
        let lt = before.0 in
        let same = once place.0 i t before.1 at in
        absurd (omega arith)
    go false e = e

-- a text that is absent goes last
pub with_new : (ts : List (List ℕ)) (t : List ℕ) → is_among ts t ≡ false → with_text ts t ≡ ts ++ t ∷ []
with_new ts t absent = ap (λ b. if b then ts else ts ++ t ∷ []) absent

pub with_known : (ts : List (List ℕ)) (t : List ℕ) → is_among ts t ≡ true → with_text ts t ≡ ts
with_known ts t known = ap (λ b. if b then ts else ts ++ t ∷ []) known
