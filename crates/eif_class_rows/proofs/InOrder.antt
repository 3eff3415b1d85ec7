-- The rows of classes that are judged in an order of inheritance.
use Rattle.std.proofs.Common.{◌≡◌, ℕ, zero, suc, ◌+◌, ◌<◌, true, false, inl, inr, List, [], ◌∷◌, ◌++◌, length}
use Rattle.std.proofs.Common.{get_or, set, take, Option, Some, None, refl, sym, ap, subst, ◌∙◌, arith}
use Rattle.std.proofs.lemmas.Bool.{cases_Bool, eq-eqb, eqb-false, eqb-true}
use Rattle.std.proofs.lemmas.List.{length-set}
use Rattle.std.proofs.lemmas.Option.{get_or_from_slice_get, same_Some, slice_get-get_or, slice_get-map}
use Rattle.std.proofs.lemmas.Option.{slice_get_within}
use Rattle.std.specs.Option.{option_map}
use Rattle.std.specs.Prelude.{slice_get, is_some, ◌==◌}
use Rattle.eif_base.specs.declared.class_id.ClassId.{ClassId}
use Rattle.eif_ancestry.proofs.Members.{member_one_more, or_cases, or_left, or_right}
use Rattle.eif_class_rows.proofs.RowsFor.{kept_row}
use Rattle.eif_class_rows.specs.Filling.{AreFilled, AreOfWhole, AreRowsFor, HasNone, HaveRows, IsRowIfWhole, has_row}
use Rattle.eif_feature_faults.proofs.InTurn.{take-next}
use Rattle.eif_heirs.proofs.Places.{get-set_other, get-set_same}
use Rattle.eif_lineage_laws.proofs.Descending.{above_before}
use Rattle.eif_lineage_laws.proofs.Unfolding.{class_at}
use Rattle.eif_rows.specs.Numbers.{class_numbers}
use Rattle.eif_rows.specs.Rows.{IsRow}
use Rattle.eif_rows.specs.declared.row.Row.{Row}
use Rattle.eif_system.specs.Graph.{IsOrder, is_member}
use Rattle.eif_system.specs.Inheritance.{graph_of}
use Rattle.eif_table_laws.specs.WholeClasses.{is_whole}
use Rattle.eif_tree.specs.Tree.{ClassT}

-- what stands before a place is among the items so far
member_before : (xs : List ℕ) (i j k : ℕ) → j < i → slice_get xs j ≡ Some k → is_member k (take i xs) ≡ true
member_before xs zero j k lt e = absurd (omega arith)
member_before [] (suc i) j k lt e = absurd (cc)
member_before (x ∷ xs) (suc i) zero k lt e = or_left (x == k) (is_member k (take i xs)) (eq-eqb x k (same_Some x k e))
member_before (x ∷ xs) (suc i) (suc j) k lt e =
    or_right (x == k) (is_member k (take i xs)) (member_before xs i j k (omega arith) e)

-- whether a class has a row, by what stands at its place
has_row_at : (rows : List (Option Row)) (k : ℕ) (o : Option Row) → slice_get rows k ≡ Some o →
    has_row rows k ≡ is_some o
has_row_at rows k o e = ap is_some (get_or_from_slice_get rows k o None e)

-- a whole class has a row by what is kept of it
row_of_whole : (u : List ClassT) (d : ℕ) (o : Option Row) → IsRowIfWhole u d o → is_whole u d ≡ true → is_some o ≡ true
row_of_whole u d None is w = let z : true ≡ false = sym w ∙ is in cc
row_of_whole u d (Some r) is w = refl

-- the class at a place of the order, by its number
pub number_at : (order : List ClassId) (i : ℕ) → i < length order →
    slice_get (class_numbers order) i ≡ Some (get_or order i (record { 0 = 0 })).0
number_at order i h =
    slice_get-map (λ (x : ClassId). x.0) order i
    ∙ ap (option_map (λ (x : ClassId). x.0)) (slice_get-get_or order i (record { 0 = 0 }) h)

-- it is one of the universe
pub in_universe : (u : List ClassT) (order : List ℕ) → IsOrder (graph_of u) order → (i d : ℕ) →
    slice_get order i ≡ Some d → d < length u
in_universe u order is i d at = slice_get_within u d (class_at u order is i d at).0 (class_at u order is i d at).1

module _ (u : List ClassT) where
  -- before the first class there is no row
  pub filled_none : (rows : List (Option Row)) → HasNone (length u) rows → AreFilled u rows []
  filled_none rows is = record {
    long = is.long;
    of_whole = λ k r at.
        let z : true ≡ false = sym (has_row_at rows k (Some r) at) ∙ is.none k in absurd (cc);
    done_have = λ k m w. let z : false ≡ true = m in cc;
  }

  module _ (order : List ℕ) (i d : ℕ) (at : slice_get order i ≡ Some d) (rows : List (Option Row))
      (filled : AreFilled u rows (take i order)) where
    -- the ancestors of the next class are judged
    pub next_rows : IsOrder (graph_of u) order → AreRowsFor u rows d
    next_rows is = record {
      of_whole = filled.of_whole;
      above_have = λ k m w.
          let j = above_before u order is i d k at m in
          filled.done_have k (member_before order i j.0 k j.1 j.2) w;
    }

    module _ (within : d < length u) (o : Option Row) (is : IsRowIfWhole u d o) where
      -- the new row stands at its place
      new_row : slice_get (set rows d o) d ≡ Some o
      new_row = let long = filled.long in get-set_same rows d o (omega arith)

      -- other rows stay
      old_row : (k : ℕ) → (d == k) ≡ false → slice_get (set rows d o) k ≡ slice_get rows k
      old_row k f = get-set_other rows d k o (eqb-false d k f)

      new_of_whole : AreOfWhole u (set rows d o)
      new_of_whole k r e = elim (cases_Bool (d == k)) [
        | inl t ↦ (
            let same = eqb-true d k t in
            let row : o ≡ Some r =
            same_Some o (Some r) (sym new_row ∙ subst (λ k. slice_get (set rows d o) k ≡ Some (Some r)) (sym same) e) in
            subst (λ k. IsRow u k r × (is_whole u k ≡ true)) same (subst (IsRowIfWhole u d) row is))
        | inr f ↦ filled.of_whole k r (sym (old_row k f) ∙ e)
      ]

      new_done : HaveRows u (set rows d o) (take i order ++ d ∷ [])
      new_done k m w = elim (cases_Bool (d == k)) [
        | inl t ↦ (
            let same = eqb-true d k t in
            subst (λ k. has_row (set rows d o) k ≡ true) same
            (has_row_at (set rows d o) d o new_row
            ∙ row_of_whole u d o is (subst (λ k. is_whole u k ≡ true) (sym same) w)))
        | inr f ↦ (
            let before = or_cases (is_member k (take i order) ≡ true) (is_member k (take i order)) (d == k)
            (sym (member_one_more (take i order) d k) ∙ m) (λ t. t)
            (λ t. let z : false ≡ true = sym f ∙ t in cc) in
            let row = kept_row rows k (filled.done_have k before w) in
            has_row_at (set rows d o) k (Some row.0) (old_row k f ∙ row.1))
      ]

      -- one class more is judged
      pub filled_more : AreFilled u (set rows d o) (take (i + 1) order)
      filled_more = record {
        long = length-set rows d o ∙ filled.long;
        of_whole = new_of_whole;
        done_have = subst (HaveRows u (set rows d o)) (sym (take-next order i d at)) new_done;
      }
