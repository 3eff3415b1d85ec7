-- The rows of a class's proper ancestors, by their numbers.
use Rattle.std.proofs.Common.{◌≡◌, ℕ, Bool, true, false, List, map, Some, Err, refl, sym, ap, subst, ◌∙◌}
use Rattle.std.specs.Prelude.{slice_get}
use Rattle.std.specs.List.Sorted.{IsBinarySearchResult, IsStrictlySortedBy}
use Rattle.std.specs.Ordering.{nat_cmp}
use Rattle.std.proofs.lemmas.Cmp.{nat_cmp_total, tied_itself}
use Rattle.eif_classes.specs.Descent.{above}
use Rattle.eif_rows.specs.AncestorRows.{IsAncestorRow}
use Rattle.eif_rows.specs.Rows.{IsRow}
use Rattle.eif_rows.specs.declared.ancestor_row.AncestorRow.{AncestorRow}
use Rattle.eif_rows.specs.declared.row.Row.{Row}
use Rattle.eif_rows.proofs.ClassSets.{rising-above}
use Rattle.eif_rows.proofs.Matches.{map-from_Match, Match-at, Match-at_second, Match-weaken}
use Rattle.eif_rows.proofs.NameSets.{place-from_is_member}
use Rattle.eif_rows.proofs.Searching.{absent, map_itself}
use Rattle.eif_system.specs.Graph.{is_member}
use Rattle.eif_system.specs.Lineage.{line_of}
use Rattle.eif_tree.specs.Tree.{ClassT}

module _ (u : List ClassT) (d : ℕ) (r : Row) (is : IsRow u d r) where
  numbers_are : map (λ a. a.class_id.0) r.ancestors.items ≡ above (line_of u d)
  numbers_are =
      map-from_Match (λ (a : AncestorRow). a.class_id.0) (λ (k : ℕ). k) r.ancestors.items (above (line_of u d))
      (Match-weaken (IsAncestorRow u (line_of u d)) (λ a k. a.class_id.0 ≡ k) (λ a k h. h.class) r.ancestors.items
      (above (line_of u d)) is.ancestors_are)
      ∙ map_itself (above (line_of u d))

  -- a row with the number of the class is that of the class
  pub ancestor_at : (i k : ℕ) (a : AncestorRow) → slice_get r.ancestors.items i ≡ Some a → a.class_id.0 ≡ k
      → IsAncestorRow u (line_of u d) a k
  ancestor_at i k a at same =
      let found = Match-at (IsAncestorRow u (line_of u d)) r.ancestors.items (above (line_of u d)) is.ancestors_are
      i a at in
      subst (IsAncestorRow u (line_of u d) a) (sym found.2.class ∙ same) found.2

  -- a class that a search by halves does not find is no proper ancestor
  pub no_ancestor : (k i : ℕ) → IsBinarySearchResult (λ a. nat_cmp a.class_id.0 k) r.ancestors.items (Err i)
      → is_member k (above (line_of u d)) ≡ false
  no_ancestor k i found = go (is_member k (above (line_of u d))) refl
    where
      up : IsStrictlySortedBy nat_cmp (map (λ a. a.class_id.0) r.ancestors.items)
      up = subst (IsStrictlySortedBy nat_cmp) (sym numbers_are) (rising-above (line_of u d))

      go : (b : Bool) → is_member k (above (line_of u d)) ≡ b → is_member k (above (line_of u d)) ≡ false
      go true e =
          let place = place-from_is_member (above (line_of u d)) k e in
          let row = Match-at_second (IsAncestorRow u (line_of u d)) r.ancestors.items (above (line_of u d))
          is.ancestors_are place.0 k place.1 in
          absurd (absent nat_cmp_total (λ a. a.class_id.0) r.ancestors.items up k i found place.0 row.0 row.1
          (ap (λ x. nat_cmp x k) row.2.class ∙ tied_itself nat_cmp_total k))
      go false e = e
