-- Numbers in rising order.
use Rattle.std.proofs.Common.{◌≡◌, ℕ, ◌<◌, ◌≤◌, ◌-◌, true, eqb, List, [], ◌∷◌, length, get_or, take, drop, Some, Ok, Err, Result, sym, ap, subst, ◌∙◌, arith, ⊎_elim, MatchResult}
use Rattle.std.specs.Prelude.{is_ok}
use Rattle.std.specs.Ordering.{nat_cmp}
use Rattle.std.specs.List.{IsDistinct}
use Rattle.std.specs.List.Sorted.{IsPermutation, IsSorted, IsStrictlyIncreasing, IsBinarySearchResult}
use Rattle.std.proofs.lemmas.Bool.{cases_lt}
use Rattle.std.proofs.lemmas.Bool.Decides.{nat_tests}
use Rattle.std.proofs.lemmas.Cmp.{nat_eq_equiv}
use Rattle.std.proofs.lemmas.List.{take_all, length-drop}
use Rattle.std.proofs.lemmas.List.Sorted.{IsNonDecreasingBy-from_sort, list_any-IsPermutation, searched}
use Rattle.std.proofs.lemmas.Map.Keys.{IsDistinct-tail, IsDistinct-IsPermutation, IsStrictlyIncreasing-from_distinct, IsDistinct-from_apart, below_from_sorted, sorted_from_strictly_increasing, non_decreasing_from_sorted}
use Rattle.std.proofs.lemmas.Option.{slice_get_within, get_or_from_slice_get, slice_get-get_or}
use Rattle.eif_system.specs.Graph.{is_member}
use Rattle.eif_ancestry.specs.Ancestries.{IsRisingListOf}
use Rattle.eif_ancestry.proofs.Members.{same_member, member_at, place_of, one_place, is_false}

-- rising numbers differ
pub rising_distinct : (xs : List ℕ) → IsStrictlyIncreasing xs → IsDistinct eqb xs
rising_distinct xs up =
    IsDistinct-from_apart eqb xs (λ i j d h k.
    let l = below_from_sorted xs i j d (sorted_from_strictly_increasing xs up) h k in
    grind (arith, nat_tests))

rest_distinct : (met : List ℕ) → IsDistinct eqb met → IsDistinct eqb (drop 1 met)
rest_distinct [] d = d
rest_distinct (x ∷ met) d = IsDistinct-tail eqb x met d

rest_whole : (met : List ℕ) → take (length met - 1) (drop 1 met) ≡ drop 1 met
rest_whole met = take_all (length met - 1) (drop 1 met) (let e = length-drop 1 met in omega arith)

-- a sort of all but the first of different numbers
module _ (met above sorted : List ℕ) (distinct : IsDistinct eqb met)
    (part : above ≡ take (length met - 1) (drop 1 met)) (moved : IsPermutation above sorted)
    (ranked : IsSorted nat_cmp sorted) where
  is : above ≡ drop 1 met
  is = part ∙ rest_whole met

  pub rest_rises : IsStrictlyIncreasing sorted
  rest_rises = IsStrictlyIncreasing-from_distinct sorted (IsNonDecreasingBy-from_sort (λ x. x) sorted ranked)
      (IsDistinct-IsPermutation eqb nat_eq_equiv.symm above sorted moved
      (subst (IsDistinct eqb) (sym is) (rest_distinct met distinct)))

  same_rest : (a : ℕ) → is_member a sorted ≡ is_member a (drop 1 met)
  same_rest a =
      sym (same_member a sorted)
      ∙ (sym (list_any-IsPermutation (eqb a) above sorted moved) ∙ (same_member a above ∙ ap (is_member a) is))

  pub rest_listed : IsRisingListOf (λ a. is_member a (drop 1 met) ≡ true) sorted
  rest_listed = record {
    rising = rest_rises;
    list = record {
      once = one_place sorted (rising_distinct sorted rest_rises);
      only = λ i a e. sym (same_rest a) ∙ member_at sorted i a e;
      each = λ a h. place_of sorted a (same_rest a ∙ h);
    };
  }

-- what a search by halves finds
pub found_is : (xs : List ℕ) (x : ℕ) (r : Result ℕ ℕ) → IsStrictlyIncreasing xs
    → IsBinarySearchResult (λ y. nat_cmp y x) xs r → is_ok r ≡ is_member x xs
found_is xs x r up is =
    go r (searched xs x r is
    (λ i j h k. non_decreasing_from_sorted xs (sorted_from_strictly_increasing xs up) i j 0 h k))
  where
    go : (r : Result ℕ ℕ)
        → MatchResult r (λ i. (i < length xs) × (get_or xs i 0 ≡ x))
        (λ i. (i ≤ length xs) × ((k : ℕ) → k < i → get_or xs k 0 < x)
        × ((k : ℕ) → i ≤ k → k < length xs → x < get_or xs k 0))
        → is_ok r ≡ is_member x xs
    go (Ok i) h = sym (member_at xs i x (slice_get-get_or xs i 0 h.0 ∙ ap Some h.1))
    go (Err i) h = sym (is_false (is_member x xs) (λ m.
        let k = place_of xs x m in
        let e = get_or_from_slice_get xs k.0 x 0 k.1 in
        let l = slice_get_within xs k.0 x k.1 in
        ⊎_elim (λ (b : k.0 < i). let n = h.1 k.0 b in absurd (omega arith))
        (λ (b : i ≤ k.0). let n = h.2 k.0 b l in absurd (omega arith))
        (cases_lt k.0 i)))
