-- The rows of the classes above a class.
use Rattle.std.proofs.Common.{◌≡◌, ℕ, zero, suc, ◌+◌, ◌<◌, Bool, true, false, List, [], ◌∷◌, ◌++◌, length}
use Rattle.std.proofs.Common.{Option, Some, None, refl, sym, ap, ap₂, ◌∙◌}
use Rattle.std.proofs.lemmas.Bool.{eq-eqb}
use Rattle.std.proofs.lemmas.List.{length_push}
use Rattle.std.specs.List.{list_all}
use Rattle.std.specs.Prelude.{slice_get, ◌&&◌, ◌==◌}
use Rattle.eif_ancestry.proofs.Members.{or_left, or_right, same_bool}
use Rattle.eif_class_rows.proofs.Above.{above_further, parent_above}
use Rattle.eif_class_rows.proofs.Whole.{whole_parents}
use Rattle.eif_class_rows.specs.Filling.{AreRowsFor, HasNone, has_row}
use Rattle.eif_classes.specs.Descent.{above}
use Rattle.eif_feature_rules.specs.FeaturePhases.{is_clean}
use Rattle.eif_heirs.specs.RowsAbove.{AreRowsAbove}
use Rattle.eif_lineage_laws.proofs.Unfolding.{class_within, parents_at}
use Rattle.eif_rows.specs.Systems.{IsSystem}
use Rattle.eif_rows.specs.declared.row.Row.{Row}
use Rattle.eif_system.specs.Graph.{is_member, parents_of}
use Rattle.eif_system.specs.Inheritance.{graph_of, parent_numbers}
use Rattle.eif_system.specs.Lineage.{line_of}
use Rattle.eif_table_laws.proofs.Wholeness.{all_pass, and_both, each_passes}
use Rattle.eif_table_laws.specs.WholeClasses.{is_whole}
use Rattle.eif_tree.specs.Tree.{ClassT}

-- the row that a class has
pub kept_row : (rows : List (Option Row)) (k : ℕ) → has_row rows k ≡ true →
    (r : Row) × (slice_get rows k ≡ Some (Some r))
kept_row [] k h = absurd (cc)
kept_row (None ∷ rows) zero h = absurd (cc)
kept_row (Some r ∷ rows) zero h = (r, refl)
kept_row (o ∷ rows) (suc k) h = kept_row rows k h

-- ---- before the first class

-- no row at all
pub none_at_first : (rows : List (Option Row)) → rows ≡ [] → HasNone 0 rows
none_at_first rows e = record { long = ap length e; none = λ k. ap (λ rs. has_row rs k) e }

-- the place of one class more has no row
none_push : (rows : List (Option Row)) → ((k : ℕ) → has_row rows k ≡ false) → (k : ℕ) →
    has_row (rows ++ None ∷ []) k ≡ false
none_push [] none zero = refl
none_push [] none (suc k) = refl
none_push (o ∷ rows) none zero = none zero
none_push (o ∷ rows) none (suc k) = none_push rows (λ j. none (suc j)) k

-- one class more without a row
pub none_more : (n : ℕ) (rows new : List (Option Row)) → new ≡ rows ++ None ∷ [] → HasNone n rows → HasNone (n + 1) new
none_more n rows new e is = record {
  long = ap length e ∙ (length_push rows None ∙ ap (λ n. n + 1) is.long);
  none = λ k. ap (λ rs. has_row rs k) e ∙ none_push rows is.none k;
}

-- ---- the classes above a class

-- tests that agree on the members of a list agree on the list
same_all : (f g : ℕ → Bool) (ks : List ℕ) → ((k : ℕ) → is_member k ks ≡ true → f k ≡ g k) →
    list_all f ks ≡ list_all g ks
same_all f g [] h = refl
same_all f g (k ∷ ks) h =
    ap₂ ◌&&◌ (h k (or_left (k == k) (is_member k ks) (eq-eqb k k refl)))
    (same_all f g ks (λ j m. h j (or_right (k == j) (is_member j ks) m)))

module _ (u : List ClassT) (system : IsSystem u) (rows : List (Option Row)) (d : ℕ) (are : AreRowsFor u rows d)
    (within : d < length u) where
  abbrev c : ClassT
  c = (class_within u d within).0

  at : slice_get u d ≡ Some c
  at = (class_within u d within).1

  -- a parent has a row where it is whole
  parent_told : (q : ℕ) → is_member q (parent_numbers u c) ≡ true → has_row rows q ≡ is_whole u q
  parent_told q m = same_bool (has_row rows q) (is_whole u q)
      (λ h. let r = kept_row rows q h in (are.of_whole q r.0 r.1).1)
      (λ w. are.above_have q (parent_above u system d c at q m) w)

  -- the parents have rows just where no ancestor has a breach
  pub parents_told : (ps : List ℕ) → ps ≡ parents_of (graph_of u) d →
      list_all (has_row rows) ps ≡ list_all (is_clean u) (above (line_of u d))
  parents_told ps e =
      ap (list_all (has_row rows)) (e ∙ parents_at u d c at)
      ∙ (same_all (has_row rows) (is_whole u) (parent_numbers u c) parent_told ∙ sym (whole_parents u system d c at))

  -- then each ancestor has its row
  pub rows_above : list_all (is_clean u) (above (line_of u d)) ≡ true → AreRowsAbove u rows d
  rows_above clean k m =
      let passes = each_passes (is_clean u) (above (line_of u d)) clean in
      let whole = and_both (is_clean u k) (list_all (is_clean u) (above (line_of u k))) (passes k m)
      (all_pass (is_clean u) (above (line_of u k)) (λ j n. passes j (above_further u system d c at k j m n))) in
      let r = kept_row rows k (are.above_have k m whole) in
      (r.0, r.1, (are.of_whole k r.0 r.1).0)
