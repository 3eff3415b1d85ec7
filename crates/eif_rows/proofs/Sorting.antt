-- A list that is sorted by a key, and then freed of items with equal keys, has the keys in order.
use Rattle.std.proofs.Common.{◌≡◌, Bool, true, false, List, [], ◌∷◌, map, refl, sym, ap, ◌∙◌}
use Rattle.std.specs.Prelude.{◌||◌, cond}
use Rattle.std.specs.List.{AllByRecursion, dedup, dedup_from, list_any}
use Rattle.std.specs.List.Sorted.{IsPermutation, IsSorted, IsStrictlySortedBy}
use Rattle.std.specs.Ordering.{eq_by_cmp, on}
use Rattle.std.specs.declared.cmp.Ordering.{Ordering}
use Rattle.std.specs.declared.cmp.Ordering.TheVariants.{Less}
use Rattle.std.proofs.lemmas.Cmp.{on_total}
use Rattle.std.proofs.lemmas.List.Kept.{IsStrictlySortedBy-dedup}
use Rattle.std.proofs.lemmas.List.Sorted.{list_any-IsPermutation}
use Rattle.eif_classes.specs.RisingLists.{in_order}
use Rattle.eif_rows.proofs.RisingLists.{IsLinearOrder, equal_from_is_eq, list_any-in_order, or_twice, rising-in_order, same_rising}

module _ {X A : Type 0} (key : X → A) {cmp : A → A → Ordering} (o : IsLinearOrder cmp) (same : X → X → Bool)
    (ties : (x y : X) → same x y ≡ eq_by_cmp cmp (key x) (key y)) where
  any-map : (p : A → Bool) (xs : List X) → list_any p (map key xs) ≡ list_any (λ x. p (key x)) xs
  any-map p [] = refl
  any-map p (x ∷ xs) = ap (λ b. p (key x) || b) (any-map p xs)

  any-cond : (p : A → Bool) (x y : X) (xs more rest : List X) (b : Bool) → same x y ≡ b
      → list_any (λ x. p (key x)) more ≡ (p (key y) || list_any (λ x. p (key x)) xs)
      → list_any (λ x. p (key x)) rest ≡ (p (key x) || list_any (λ x. p (key x)) xs)
      → list_any (λ x. p (key x)) (cond b more (y ∷ rest))
      ≡ (p (key y) || (p (key x) || list_any (λ x. p (key x)) xs))
  any-cond p x y xs more rest true e h k =
      h ∙ (or_twice (p (key y)) (list_any (λ x. p (key x)) xs)
      ∙ ap (λ z. p (key y) || (p z || list_any (λ x. p (key x)) xs))
      (sym (o.one (key x) (key y) (equal_from_is_eq _ (sym (ties x y) ∙ e)))))
  any-cond p x y xs more rest false e h k = ap (λ b. p (key y) || b) k

  any-dedup_from : (p : A → Bool) (y : X) (xs : List X)
      → list_any (λ x. p (key x)) (dedup_from same y xs) ≡ (p (key y) || list_any (λ x. p (key x)) xs)
  any-dedup_from p y [] = refl
  any-dedup_from p y (x ∷ xs) =
      any-cond p x y xs (dedup_from same y xs) (dedup_from same x xs) (same x y) refl (any-dedup_from p y xs)
      (any-dedup_from p x xs)

  any-dedup : (p : A → Bool) (xs : List X)
      → list_any (λ x. p (key x)) (dedup same xs) ≡ list_any (λ x. p (key x)) xs
  any-dedup p [] = refl
  any-dedup p (x ∷ xs) = any-dedup_from p x xs

  All-map : (x : X) (xs : List X) → AllByRecursion (λ y. cmp (key x) (key y) ≡ Less) xs
      → AllByRecursion (λ y. cmp (key x) y ≡ Less) (map key xs)
  All-map x [] h = tt
  All-map x (y ∷ xs) h = (h.0, All-map x xs h.1)

  rising-map : (xs : List X) → IsStrictlySortedBy (on key cmp) xs → IsStrictlySortedBy cmp (map key xs)
  unfolding IsStrictlySortedBy
  rising-map [] h = tt
  rising-map (x ∷ xs) h = (All-map x xs h.0, rising-map xs h.1)

  pub keys_in_order : (old sorted : List X) → IsPermutation old sorted → IsSorted (on key cmp) sorted
      → map key (dedup same sorted) ≡ in_order cmp (map key old)
  keys_in_order old sorted moved up =
      same_rising o (map key (dedup same sorted)) (in_order cmp (map key old))
      (rising-map (dedup same sorted) (IsStrictlySortedBy-dedup (on_total key o.total) ties sorted up))
      (rising-in_order o.total (map key old))
      (λ z. any-map (eq_by_cmp cmp z) (dedup same sorted)
      ∙ (any-dedup (eq_by_cmp cmp z) sorted
      ∙ (sym (list_any-IsPermutation (λ x. eq_by_cmp cmp z (key x)) old sorted moved)
      ∙ (sym (any-map (eq_by_cmp cmp z) old) ∙ sym (list_any-in_order o (eq_by_cmp cmp z) (map key old))))))
