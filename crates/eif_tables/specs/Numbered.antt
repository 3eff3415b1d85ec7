-- The names of a class by their numbers among all names.
use Rattle.std.specs.Prelude.{◌≡◌, ℕ, List, map, slice_get, Some}
use Rattle.std.specs.List.Sorted.{IsStrictlyIncreasing}
use Rattle.eif_rows.specs.Matched.{Match}
use Rattle.eif_rows.specs.declared.row.Row.{Row}
use Rattle.eif_tables.specs.declared.row_entry.RowEntry.{RowEntry}
use Rattle.eif_tables.specs.declared.tables.ClassTable.{ClassTable}

-- for each name in turn an entry: its number among all names, and its number in the class
pub record NameEntries (numbering names : List (List ℕ)) (entries : List RowEntry) : Type 0 where
  pub name_ids : map (λ e. slice_get numbering e.name_id.0) entries ≡ map Some names
  pub feats : map (λ e. slice_get names e.feat.0) entries ≡ map Some names

-- and their numbers among all names rise
pub record AreEntries (numbering names : List (List ℕ)) (entries : List RowEntry) : Type 0 where
  pub rising : IsStrictlyIncreasing (map (λ e. e.name_id.0) entries)
  pub name_ids : map (λ e. slice_get numbering e.name_id.0) entries ≡ map Some names
  pub feats : map (λ e. slice_get names e.feat.0) entries ≡ map Some names

-- a table of the row, with an entry for each of its names
pub record IsTableOf (numbering : List (List ℕ)) (t : ClassTable) (r : Row) : Type 0 where
  pub row_is : t.row ≡ r
  pub entries_are : NameEntries numbering r.names.items t.entries.items

-- one for each row
abbrev pub AreTablesOf : List (List ℕ) → List ClassTable → List Row → Type 0
AreTablesOf numbering ts rows = Match (IsTableOf numbering) ts rows
