-- What the phase of features gives.
use Rattle.std.specs.Prelude.{◌≡◌, ℕ, ◌<◌, true, ⊤, List, length, Some, slice_get}
use Rattle.eif_base.specs.declared.fault.Fault.{Fault}
use Rattle.eif_class_rows.specs.declared.phase.TableError.{TableError}
use Rattle.eif_class_rows.specs.declared.phase.TableError.TheVariants as error
use Rattle.eif_rows.specs.Rows.{IsRow}
use Rattle.eif_rows.specs.declared.row.Row.{Row}
use Rattle.eif_table_laws.specs.WholeClasses.{is_whole}
use Rattle.eif_tree.specs.Tree.{ClassT}
use Rattle.eif_universe.specs.Refusals.{Lists}

-- no class has a breach, and each has its row
pub record AreWholeRows (u : List ClassT) (rows : List Row) : Type 0 where
  pub whole : (d : ℕ) → d < length u → is_whole u d ≡ true
  pub long : length rows ≡ length u
  pub each : (d : ℕ) (r : Row) → slice_get rows d ≡ Some r → IsRow u d r

-- an error of faults has exactly those with broken, of which there are some
abbrev pub IsErrorOf : (Fault → Type 0) → TableError → Type 0
IsErrorOf broken (error.Faults list) = Lists list broken
IsErrorOf broken error.Memory = ⊤
