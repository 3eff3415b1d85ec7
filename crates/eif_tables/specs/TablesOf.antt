-- The tables of a universe.
use Rattle.std.specs.Prelude.{◌≡◌, ℕ, ◌<◌, true, List, length, slice_get, Some}
use Rattle.eif_base.specs.Numbering.{IsNumbering}
use Rattle.eif_base.specs.declared.class_id.ClassId.{ClassId}
use Rattle.eif_base.specs.declared.feat_id.FeatId.{FeatId}
use Rattle.eif_classes.specs.Entries.{Origin, deferred, declared_as}
use Rattle.eif_rows.specs.Rows.{IsRow}
use Rattle.eif_rows.specs.Systems.{IsSystem}
use Rattle.eif_rows.specs.Versions.{IsDeclaration}
use Rattle.eif_table_laws.specs.WholeClasses.{is_whole}
use Rattle.eif_tables.specs.Numbered.{AreEntries}
use Rattle.eif_tables.specs.declared.origin.Origin as code
use Rattle.eif_tables.specs.declared.origin.Origin.TheVariants as o
use Rattle.eif_tables.specs.declared.tables.ClassTable.{ClassTable}
use Rattle.eif_tables.specs.declared.tables.Tables.{Tables}
use Rattle.eif_tree.specs.Tree.{ClassT}

-- the table of the class d, whose names have their numbers in this numbering
pub record IsClassTable (u : List ClassT) (numbering : List (List ℕ)) (d : ℕ) (t : ClassTable)
    : Type 0 where
  pub row_is : IsRow u d t.row
  pub entries_are : AreEntries numbering t.row.names.items t.entries.items

-- the universe breaks no rule of the universe or of features, and each class has its table
pub record AreTables (u : List ClassT) (t : Tables) : Type 0 where
  pub system : IsSystem u
  pub whole : (d : ℕ) → d < length u → is_whole u d ≡ true
  pub long : length t.classes.items ≡ length u
  pub numbered : IsNumbering t.names
  pub each : (d : ℕ) (x : ClassTable) → slice_get t.classes.items d ≡ Some x
      → IsClassTable u t.names d x

-- the tables have the class
abbrev pub HasClass : Tables → ClassId → Type 0
HasClass t c = c.0 < length t.classes.items

-- the class has a feature with that number, and its row keeps what it is
pub record HasFeature (t : Tables) (c : ClassId) (f : FeatId) : Type 0 where
  pub table : ClassTable
  pub at : slice_get t.classes.items c.0 ≡ Some table
  pub named : f.0 < length table.row.names.items
  pub kept : f.0 < length table.row.features.items

-- ---- what the calls give

-- all names in the order of their numbers
abbrev pub numbering_of : Tables → List (List ℕ)
numbering_of t = t.names

-- the origin of a name
abbrev pub IsOrigin : List ClassT → code.Origin → Origin → Type 0
IsOrigin u o.Deferred deferred = Unit {0}
IsOrigin u (o.Declared k f) (declared_as x) = IsDeclaration u (record { class_id = k; feat = f }) x
IsOrigin u _ _ = ⊥
