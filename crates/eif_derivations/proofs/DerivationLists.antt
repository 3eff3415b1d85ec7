-- What a row says of the proper ancestors that it lists, by their numbers, and rows while the store of lists grows.
use Rattle.std.proofs.Common.{◌≡◌, ℕ, Bool, true, false, List, map, Option, Some, None, Err, refl, sym, ap, subst, ◌∙◌}
use Rattle.std.specs.Prelude.{slice_get}
use Rattle.std.specs.List.Sorted.{IsBinarySearchResult, IsStrictlySortedBy}
use Rattle.std.specs.Ordering.{nat_cmp}
use Rattle.std.proofs.lemmas.Cmp.{nat_cmp_total, tied_itself}
use Rattle.eif_classes.specs.Ancestry.{ancestor}
use Rattle.eif_classes.specs.Descent.{above}
use Rattle.eif_classes.specs.Resolution.{own_formals}
use Rattle.eif_classes.specs.Types.{Actuals}
use Rattle.eif_derivations.specs.DerivationRows.{IsDerivation, IsDerivationRow}
use Rattle.eif_derivations.specs.Filled.{HaveDerivations}
use Rattle.eif_derivations.specs.ListNumbers.{Holds, Keeps}
use Rattle.eif_derivations.specs.ParentActuals.{AreClauseActuals, IsClauseActuals}
use Rattle.eif_derivations.specs.declared.clause.ClauseActuals.{ClauseActuals}
use Rattle.eif_derivations.specs.declared.derivation.Derivation.{Derivation}
use Rattle.eif_derivations.specs.declared.derivation.DerivationRow.{DerivationRow}
use Rattle.eif_derivations.specs.declared.lists.ListId.{ListId}
use Rattle.eif_rows.specs.Matched.{Match}
use Rattle.eif_rows.proofs.ClassSets.{rising-above}
use Rattle.eif_rows.proofs.Matches.{map-from_Match, Match-at, Match-at_second, Match-weaken}
use Rattle.eif_rows.proofs.NameSets.{is_member-from_place, place-from_is_member}
use Rattle.eif_rows.proofs.Searching.{absent, map_itself}
use Rattle.eif_system.specs.Graph.{is_member}
use Rattle.eif_system.specs.Inheritance.{clauses}
use Rattle.eif_system.specs.Lineage.{line_of}
use Rattle.eif_tree.specs.Tree.{ClassT}

-- ---- the ancestors that a row lists

module _ (u : List ClassT) (lists : List Actuals) (d : ℕ) (r : DerivationRow) (is : IsDerivationRow u lists d r) where
  -- their numbers are those of the proper ancestors
  pub numbers_are : map (λ x. x.class_id.0) r.ancestors.items ≡ above (line_of u d)
  numbers_are =
      map-from_Match (λ (x : Derivation). x.class_id.0) (λ (k : ℕ). k) r.ancestors.items (above (line_of u d))
      (Match-weaken (IsDerivation u lists d) (λ x k. x.class_id.0 ≡ k) (λ x k h. h.class) r.ancestors.items
      (above (line_of u d)) is.ancestors_are)
      ∙ map_itself (above (line_of u d))

  module _ (i k : ℕ) (x : Derivation) (at : slice_get r.ancestors.items i ≡ Some x) (same : x.class_id.0 ≡ k) where
    found : (j : ℕ) × (slice_get (above (line_of u d)) i ≡ Some j) × IsDerivation u lists d x j
    found = Match-at (IsDerivation u lists d) r.ancestors.items (above (line_of u d)) is.ancestors_are i x at

    -- what is listed with the number of a class is of that class
    pub derivation_at : IsDerivation u lists d x k
    derivation_at = subst (IsDerivation u lists d x) (sym found.2.class ∙ same) found.2

    -- which is a proper ancestor
    pub above_at : is_member k (above (line_of u d)) ≡ true
    above_at =
        is_member-from_place (above (line_of u d)) i k (found.1 ∙ ap Some (sym found.2.class ∙ same))

  -- a class that a search by halves does not find is no proper ancestor
  pub none_above : (k i : ℕ) → IsBinarySearchResult (λ x. nat_cmp x.class_id.0 k) r.ancestors.items (Err i)
      → is_member k (above (line_of u d)) ≡ false
  none_above k i missed = go (is_member k (above (line_of u d))) refl
    where
      up : IsStrictlySortedBy nat_cmp (map (λ x. x.class_id.0) r.ancestors.items)
      up = subst (IsStrictlySortedBy nat_cmp) (sym numbers_are) (rising-above (line_of u d))

      go : (b : Bool) → is_member k (above (line_of u d)) ≡ b → is_member k (above (line_of u d)) ≡ false
      go true e =
          let place = place-from_is_member (above (line_of u d)) k e in
          let row = Match-at_second (IsDerivation u lists d) r.ancestors.items (above (line_of u d)) is.ancestors_are
          place.0 k place.1 in
          absurd (absent nat_cmp_total (λ x. x.class_id.0) r.ancestors.items up k i missed place.0 row.0 row.1
          (ap (λ x. nat_cmp x k) row.2.class ∙ tied_itself nat_cmp_total k))
      go false e = e

-- ---- while lists are added

pub keeps_itself : (lists : List Actuals) → Keeps lists lists
keeps_itself lists = λ i xs e. e

pub keeps_further : (lists more most : List Actuals) → Keeps lists more → Keeps more most → Keeps lists most
keeps_further lists more most k m = λ i xs e. m i xs (k i xs e)

module _ (lists more : List Actuals) (keeps : Keeps lists more) where
  -- numbers hold their lists
  pub holds_still : (id : Option ListId) (xs : Option Actuals) → Holds lists id xs → Holds more id xs
  holds_still None None h = tt
  holds_still (Some id) (Some xs) h = keeps id.0 xs h
  holds_still None (Some xs) h = absurd h
  holds_still (Some id) None h = absurd h

  module _ (u : List ClassT) where
    derivation_still : (d : ℕ) (x : Derivation) (k : ℕ) → IsDerivation u lists d x k → IsDerivation u more d x k
    derivation_still d x k is = record { class = is.class; actuals = holds_still x.actuals (ancestor u d k) is.actuals }

    pub derivations_still : (d : ℕ) (xs : List Derivation) (ks : List ℕ) → Match (IsDerivation u lists d) xs ks
        → Match (IsDerivation u more d) xs ks
    derivations_still d xs ks are =
        Match-weaken (IsDerivation u lists d) (IsDerivation u more d) (derivation_still d) xs ks are

    -- and rows stay right
    pub row_still : (d : ℕ) (r : DerivationRow) → IsDerivationRow u lists d r → IsDerivationRow u more d r
    row_still d r is = record {
      own = λ c at. holds_still (Some r.own) (Some (own_formals c)) (is.own c at);
      ancestors_are = derivations_still d r.ancestors.items (above (line_of u d)) is.ancestors_are;
    }

    pub clauses_still : (c : ClassT) (xs : List ClauseActuals) → AreClauseActuals u lists c xs
        → AreClauseActuals u more c xs
    clauses_still c xs are = Match-weaken (IsClauseActuals u lists c) (IsClauseActuals u more c) (λ x p is. record {
      tree_is = is.tree_is;
      parent_is = is.parent_is;
      row_is = row_still x.parent.0 x.row.now is.row_is;
      actuals_are = is.actuals_are;
    }) xs (clauses c) are

    pub rows_still : (rows : List (Option DerivationRow)) (ks : List ℕ) → HaveDerivations u lists rows ks
        → HaveDerivations u more rows ks
    rows_still rows ks have = λ k m. let r = have k m in (r.0, r.1, row_still k r.0 r.2)
