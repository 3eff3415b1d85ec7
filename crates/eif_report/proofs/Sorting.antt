-- A list of faults that is sorted, and then freed of repeated ones, lists the same faults.
use Rattle.std.proofs.Common.{◌≡◌, ℕ, Bool, true, List, [], ◌∷◌, length, refl, sym}
use Rattle.std.specs.declared.cmp.Ordering.{Ordering}
use Rattle.std.specs.declared.cmp.Ordering.TheVariants.{Less, Equal, Greater}
use Rattle.std.specs.Ordering.{is_eq, eq_by_cmp}
use Rattle.std.specs.List.{dedup, Contains}
use Rattle.std.specs.List.Sorted.{IsPermutation, IsSorted, IsStrictlySortedBy}
use Rattle.std.proofs.lemmas.Cmp.{eq_by_cmp_equiv}
use Rattle.std.proofs.lemmas.List.Kept.{IsStrictlySortedBy-dedup, Contains-dedup, Contains-from_dedup}
use Rattle.std.proofs.lemmas.List.Sorted.{Contains-permutation, IsPermutation-sym}
use Rattle.std.proofs.lemmas.Option.{slice_get_within, slice_get_read, get_or_from_slice_get}
use Rattle.eif_base.specs.Appends.{In}
use Rattle.eif_base.specs.declared.Fault.{Fault}
use Rattle.eif_report.specs.Order.{fault_cmp, IsInOrder, Lists}
use Rattle.eif_report.proofs.Total.{fault_cmp_total, fault_cmp_equal}

Contains-from_In : (list : List Fault) (f : Fault) → In list f → Contains list f
Contains-from_In list f p = (p.0, slice_get_within list p.0 f p.1, get_or_from_slice_get list p.0 f f p.1)

In-from_Contains : (list : List Fault) (f : Fault) → Contains list f → In list f
In-from_Contains list f p = (p.0, slice_get_read list (length list) p.0 f refl p.1 (sym p.2))

equal_from_is_eq : (o : Ordering) → is_eq o ≡ true → o ≡ Equal
equal_from_is_eq Less e = absurd (cc)
equal_from_is_eq Equal e = refl
equal_from_is_eq Greater e = absurd (cc)

abbrev pub same_fault : List (List ℕ) → Fault → Fault → Bool
same_fault names = eq_by_cmp (fault_cmp names)

module _ (names : List (List ℕ)) where
  same_fault-one : (a b : Fault) → same_fault names a b ≡ true → a ≡ b
  same_fault-one a b e = fault_cmp_equal names a b (equal_from_is_eq _ e)

  in_order_from_sorted : (list : List Fault) → IsStrictlySortedBy (fault_cmp names) list → IsInOrder names list
  unfolding IsStrictlySortedBy
  in_order_from_sorted [] h = tt
  in_order_from_sorted (a ∷ []) h = tt
  in_order_from_sorted (a ∷ b ∷ rest) h = (h.0.0, in_order_from_sorted (b ∷ rest) h.1)

  pub lists_sorted : (old sorted : List Fault) → IsPermutation old sorted → IsSorted (fault_cmp names) sorted →
      Lists names (dedup (same_fault names) sorted) (In old)
  lists_sorted old sorted p up =
      let total = fault_cmp_total names in
      let strict = IsStrictlySortedBy-dedup total {E = same_fault names} (λ x y. refl) sorted up in
      record {
        in_order = in_order_from_sorted _ strict;
        only = λ f h. In-from_Contains old f (Contains-permutation sorted old f (IsPermutation-sym old sorted p)
            (Contains-from_dedup _ sorted f (Contains-from_In _ f h)));
        each = λ f h. In-from_Contains _ f (Contains-dedup (eq_by_cmp_equiv total) same_fault-one sorted f
            (Contains-permutation old sorted f p (Contains-from_In old f h)));
      }
