-- The rows of a universe while its classes are judged: they are kept of the classes that are whole.
use Rattle.std.specs.Prelude.{◌≡◌, ℕ, Bool, true, false, List, length}
use Rattle.std.specs.Prelude.{Option, Some, None, is_some, slice_get, slice_index_or}
use Rattle.eif_classes.specs.Descent.{above}
use Rattle.eif_rows.specs.Rows.{IsRow}
use Rattle.eif_rows.specs.declared.row.Row.{Row}
use Rattle.eif_system.specs.Graph.{is_member}
use Rattle.eif_system.specs.Lineage.{line_of}
use Rattle.eif_table_laws.specs.WholeClasses.{is_whole}
use Rattle.eif_tree.specs.Tree.{ClassT}

-- the class with that number has a row
abbrev pub has_row : List (Option Row) → ℕ → Bool
has_row rows k = is_some (slice_index_or rows k None)

-- there are so many, and none is kept
pub record HasNone (count : ℕ) (rows : List (Option Row)) : Type 0 where
  pub long : length rows ≡ count
  pub none : (k : ℕ) → has_row rows k ≡ false

-- what is kept of a class is its row, and the class is whole
abbrev pub AreOfWhole : List ClassT → List (Option Row) → Type 0
AreOfWhole u rows = (k : ℕ) (r : Row) → slice_get rows k ≡ Some (Some r) → IsRow u k r × (is_whole u k ≡ true)

-- each of these classes that is whole has a row
abbrev pub HaveRows : List ClassT → List (Option Row) → List ℕ → Type 0
HaveRows u rows ks = (k : ℕ) → is_member k ks ≡ true → is_whole u k ≡ true → has_row rows k ≡ true

-- the ancestors of the class d are judged
pub record AreRowsFor (u : List ClassT) (rows : List (Option Row)) (d : ℕ) : Type 0 where
  pub of_whole : AreOfWhole u rows
  pub above_have : HaveRows u rows (above (line_of u d))

-- these classes are judged
pub record AreFilled (u : List ClassT) (rows : List (Option Row)) (done : List ℕ) : Type 0 where
  pub long : length rows ≡ length u
  pub of_whole : AreOfWhole u rows
  pub done_have : HaveRows u rows done

-- the row of the class d where it and its ancestors have no breach, and else none
abbrev pub IsRowIfWhole : List ClassT → ℕ → Option Row → Type 0
IsRowIfWhole u d (Some r) = IsRow u d r × (is_whole u d ≡ true)
IsRowIfWhole u d None = is_whole u d ≡ false
