-- The keys of a set as texts.
use Rattle.std.proofs.Common.{◌≡◌, ℕ, suc, ◌-◌, ◌<◌, ◌^◌, Bool, true, false, List, [], ◌∷◌, ◌++◌, map, length, get_or}
use Rattle.std.proofs.Common.{Some, refl, sym, ap, subst, ◌∙◌, Vec, Global, arith, length-append}
use Rattle.std.specs.Prelude.{◌||◌, if◌then◌else◌, slice_get, position}
use Rattle.std.specs.List.{list_any}
use Rattle.std.specs.Option.{option_map}
use Rattle.std.specs.Str.{bytes_eq}
use Rattle.std.proofs.lemmas.Slice.Eq.{bytes_eq-Decides}
use Rattle.std.proofs.lemmas.List.Quantifiers.{position-Some}
use Rattle.std.proofs.lemmas.Option.{slice_get-map, slice_get-get_or}
use Rattle.eif_base.specs.Numbering.{is_among, with_text, IsNumbering}
use Rattle.eif_base.proofs.Numbered.{last, numbering_more}

abbrev pub Key : Type 0
Key = Vec ℕ Global

abbrev texts : List Key → List (List ℕ)
texts ks = map (λ (k : Key). k.items) ks

-- what is told of the keys is told of the texts
pub test_is : (t : List ℕ) (ks : List Key) → is_among (texts ks) t ≡ list_any (λ (k : Key). bytes_eq t k.items) ks
test_is t [] = refl
test_is t (k ∷ ks) = ap (λ b. bytes_eq t k.items || b) (test_is t ks)

-- the key at the place that was found
pub found_at : (t : List ℕ) (ks : List Key) (i : ℕ) → Some i ≡ position (λ (k : Key). bytes_eq t k.items) ks
    → slice_get (texts ks) i ≡ Some t
found_at t [] i e = cc
found_at t (k ∷ ks) i e =
    let p = position-Some (λ (k : Key). bytes_eq t k.items) (k ∷ ks) i k (sym e) in
    let at = slice_get-get_or (k ∷ ks) i k p.0 in
    let is = (bytes_eq-Decides t (get_or (k ∷ ks) i k).items).0 p.1 in
    slice_get-map (λ (k : Key). k.items) (k ∷ ks) i
    ∙ (ap (option_map (λ (k : Key). k.items)) at ∙ ap Some (sym is))

texts_append : (ks : List Key) (k : Key) → texts (ks ++ k ∷ []) ≡ texts ks ++ k.items ∷ []
texts_append [] k = refl
texts_append (x ∷ ks) k = ap (λ l. x.items ∷ l) (texts_append ks k)

texts_choice : (b : Bool) (ks : List Key) (k : Key)
    → texts (if b then ks else ks ++ k ∷ []) ≡ (if b then texts ks else texts ks ++ k.items ∷ [])
texts_choice true ks k = refl
texts_choice false ks k = texts_append ks k

count : (ks : List Key) → length (texts ks) ≡ length ks
count [] = refl
count (k ∷ ks) = ap suc (count ks)

-- a key was inserted: it goes last where it is absent
module _ (old : List (List ℕ)) (t : List ℕ) (ks new : List Key) (k : Key) (view : texts ks ≡ old) (is : k.items ≡ t)
    (keys : new ≡ (if list_any (λ (y : Key). bytes_eq k.items y.items) ks then ks else ks ++ k ∷ [])) where
  pub with_key : texts new ≡ with_text old t
  with_key =
      let there = is_among old t in
      let told : list_any (λ (y : Key). bytes_eq k.items y.items) ks ≡ there =
      ap (λ t. list_any (λ (y : Key). bytes_eq t y.items) ks) is
      ∙ (sym (test_is t ks) ∙ ap (λ ts. is_among ts t) view) in
      ap texts (keys ∙ ap (λ b. if b then ks else ks ++ k ∷ []) told)
      ∙ (texts_choice there ks k
      ∙ (ap (λ ts. if there then ts else ts ++ k.items ∷ []) view
      ∙ ap (λ u. if there then old else old ++ u ∷ []) is))

  module _ (absent : is_among old t ≡ false) where
    more : texts new ≡ old ++ t ∷ []
    more = with_key ∙ ap (λ b. if b then old else old ++ t ∷ []) absent

    pub number_is_last : (n : ℕ) → n ≡ length ks → slice_get (texts new) n ≡ Some t
    number_is_last n e =
        ap (slice_get (texts new)) (e ∙ (sym (count ks) ∙ ap length view))
        ∙ (ap (λ ts. slice_get ts (length old)) more ∙ last old t)

    pub once_more : IsNumbering old → IsNumbering (texts new)
    once_more once = subst IsNumbering (sym more) (numbering_more old t absent once)

    pub few_more : length old < 2 ^ 32 - 1 → length new < 2 ^ 32
    few_more few = omega (arith, few, sym (count new) ∙ ap length more, length-append old (t ∷ []))
