-- The sum of the counts of names of some classes, a class on.
use Rattle.std.proofs.Common.{◌≡◌, ℕ, ◌+◌, ◌<◌, true, List, map, length, take, get_or, Option, Some, sum, sym, ap, ap₂, ◌∙◌}
use Rattle.std.specs.Prelude.{slice_get}
use Rattle.std.specs.Option.{option_map}
use Rattle.std.proofs.lemmas.Option.{slice_get-get_or, slice_get-map}
use Rattle.eif_base.specs.declared.class_id.ClassId.{ClassId}
use Rattle.eif_classes.specs.Descent.{above}
use Rattle.eif_feature_faults.proofs.InTurn.{sum-next}
use Rattle.eif_feature_rules.specs.FeatureRules.{count_names}
use Rattle.eif_heirs.specs.RowsAbove.{AreRowsAbove}
use Rattle.eif_rows.proofs.NameSets.{is_member-from_place}
use Rattle.eif_rows.specs.Numbers.{class_numbers}
use Rattle.eif_rows.specs.Rows.{IsRow}
use Rattle.eif_rows.specs.declared.row.Row.{Row}
use Rattle.eif_system.specs.Graph.{is_member}
use Rattle.eif_system.specs.Lineage.{line_of}
use Rattle.eif_tree.specs.Tree.{ClassT}

module _ (u : List ClassT) (d : ℕ) (rows : List (Option Row)) (ids : List ClassId) (i : ℕ) where
  abbrev here : ClassId
  here = get_or ids i (record { 0 = 0 })

  -- with the names of the class at that place
  pub total-next : (total count : ℕ) → AreRowsAbove u rows d → class_numbers ids ≡ above (line_of u d) → i < length ids
      → total ≡ sum (map (count_names u) (take i (class_numbers ids)))
      → ((r : Row) → slice_get rows here.0 ≡ Some (Some r) → IsRow u here.0 r → count ≡ count_names u here.0)
      → total + count ≡ sum (map (count_names u) (take (i + 1) (class_numbers ids)))
  total-next total count kept are within so_far counted =
      let ks = class_numbers ids in
      let at : slice_get ks i ≡ Some here.0 =
      slice_get-map (λ (x : ClassId). x.0) ids i
      ∙ ap (option_map (λ (x : ClassId). x.0)) (slice_get-get_or ids i (record { 0 = 0 }) within) in
      let member : is_member here.0 (above (line_of u d)) ≡ true =
      ap (is_member here.0) (sym are) ∙ is_member-from_place ks i here.0 at in
      let row = kept here.0 member in
      ap₂ ◌+◌ so_far (counted row.0 row.1 row.2) ∙ sym (sum-next (count_names u) ks i here.0 at)
