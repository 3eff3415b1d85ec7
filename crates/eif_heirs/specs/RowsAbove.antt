-- The rows of the classes above a class, while those of a universe are filled.
use Rattle.std.specs.Prelude.{◌≡◌, ℕ, true, List, Option, Some, slice_get}
use Rattle.eif_classes.specs.Descent.{above}
use Rattle.eif_rows.specs.Rows.{IsRow}
use Rattle.eif_rows.specs.declared.row.Row.{Row}
use Rattle.eif_system.specs.Graph.{is_member}
use Rattle.eif_system.specs.Lineage.{line_of}
use Rattle.eif_tree.specs.Tree.{ClassT}

-- each proper ancestor of the class d has its row
abbrev pub AreRowsAbove : List ClassT → List (Option Row) → ℕ → Type 0
AreRowsAbove u rows d =
    (k : ℕ) → is_member k (above (line_of u d)) ≡ true → (r : Row) × (slice_get rows k ≡ Some (Some r)) × IsRow u k r
