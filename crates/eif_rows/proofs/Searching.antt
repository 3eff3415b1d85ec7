-- What a search by halves says of a list whose keys rise.
use Rattle.std.proofs.Common.{◌≡◌, ℕ, ◌<◌, ◌≤◌, Bool, true, false, List, [], ◌∷◌, length, get_or, map, Some, Err, refl, sym, ap, ap₂, subst, ◌∙◌, arith, ⊎_elim}
use Rattle.std.specs.Prelude.{slice_get}
use Rattle.std.specs.Cmp.{IsTotalOrder}
use Rattle.std.specs.List.Sorted.{IsBinarySearchResult, IsNonDecreasingBy, IsStrictlySortedBy}
use Rattle.std.specs.Ordering.{ordering_index, ordering_reverse}
use Rattle.std.specs.declared.cmp.Ordering.{Ordering}
use Rattle.std.specs.declared.cmp.Ordering.TheVariants.{Less, Equal, Greater}
use Rattle.std.proofs.lemmas.Bool.{cases_lt}
use Rattle.std.proofs.lemmas.Cmp.{nat_list_cmp_total, tied_itself}
use Rattle.std.proofs.lemmas.List.{get_or-map, length-map}
use Rattle.std.proofs.lemmas.Map.Keys.{Less-from_sorted}
use Rattle.std.proofs.lemmas.Option.{get_or_from_slice_get, slice_get_within}
use Rattle.eif_base.specs.Numbering.{is_among}
use Rattle.eif_classes.specs.Names.{name_cmp}
use Rattle.eif_rows.proofs.NameSets.{place-from_is_among}

module _ {A : Type 0} {cmp : A → A → Ordering} (o : IsTotalOrder cmp) where
  -- of two items the lesser compares no higher
  rises_with : (y z x : A) → cmp y z ≡ Less → (r : Ordering) → cmp y x ≡ r
      → ordering_index r ≤ ordering_index (cmp z x)
  rises_with y z x l Less e = omega arith
  rises_with y z x l Equal e =
      let back : cmp x z ≡ Less = sym (o.congr y x z e) ∙ l in
      let up : cmp z x ≡ Greater = o.antisymm z x ∙ ap ordering_reverse back in
      let is = ap ordering_index up in
      omega arith
  rises_with y z x l Greater e =
      let back : cmp x y ≡ Less = o.antisymm x y ∙ ap ordering_reverse e in
      let up : cmp z x ≡ Greater = o.antisymm z x ∙ ap ordering_reverse (o.trans x y z back l) in
      let is = ap ordering_index up in
      omega arith

  module _ {X : Type 0} (key : X → A) (xs : List X) (up : IsStrictlySortedBy cmp (map key xs)) (x : A) where
    key_at : (i : ℕ) (d : X) → i < length xs → get_or (map key xs) i (key d) ≡ key (get_or xs i d)
    key_at i d h = get_or-map key xs i d (key d) h

    non_decreasing : IsNonDecreasingBy (λ y. ordering_index (cmp (key y) x)) xs
    non_decreasing i j d h k = ⊎_elim
        (λ (l : i < j). rises_with (key (get_or xs i d)) (key (get_or xs j d)) x
        (sym (ap₂ cmp (key_at i d (omega arith)) (key_at j d k))
        ∙ Less-from_sorted cmp (map key xs) i j (key d) up l (let e = length-map xs key in omega arith))
        (cmp (key (get_or xs i d)) x) refl)
        (λ (g : j ≤ i). let e : i ≡ j = omega arith in
        let is = ap (λ k. ordering_index (cmp (key (get_or xs k d)) x)) e in omega arith)
        (cases_lt i j)

    -- where it finds nothing, no item has the key
    pub absent : (i : ℕ) → IsBinarySearchResult (λ y. cmp (key y) x) xs (Err i)
        → (k : ℕ) (y : X) → slice_get xs k ≡ Some y → cmp (key y) x ≡ Equal → ⊥
    absent i found k y e same =
        let parts = found non_decreasing in
        let at : get_or xs k y ≡ y = get_or_from_slice_get xs k y y e in
        let within = slice_get_within xs k y e in
        ⊎_elim
        (λ (l : k < i). apart (sym same ∙ (ap (λ z. cmp (key z) x) (sym at) ∙ parts.0 k y (omega arith) l)))
        (λ (g : i ≤ k). apart_too (sym same ∙ (ap (λ z. cmp (key z) x) (sym at) ∙ parts.1 k y g within)))
        (cases_lt k i)
      where
        apart : Equal ≡ Less → ⊥
        apart e = cc

        apart_too : Equal ≡ Greater → ⊥
        apart_too e = cc

pub map_itself : {A : Type 0} (xs : List A) → map (λ x. x) xs ≡ xs
map_itself [] = refl
map_itself (x ∷ xs) = ap (λ ys. x ∷ ys) (map_itself xs)

-- a name that it does not find among rising names is not there
pub no_name : (ns : List (List ℕ)) → IsStrictlySortedBy name_cmp ns → (n : List ℕ) (i : ℕ)
    → IsBinarySearchResult (λ m. name_cmp m n) ns (Err i) → is_among ns n ≡ false
no_name ns up n i found = go (is_among ns n) refl
  where
    go : (b : Bool) → is_among ns n ≡ b → is_among ns n ≡ false
    go true e =
        let place = place-from_is_among ns n e in
        absurd (absent nat_list_cmp_total (λ m. m) ns (subst (IsStrictlySortedBy name_cmp) (sym (map_itself ns)) up)
        n i found place.0 n place.1 (tied_itself nat_list_cmp_total n))
    go false e = e
