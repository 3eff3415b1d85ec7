-- Versions of rows, and tables made of rows.
use Rattle.std.proofs.Common.{◌≡◌, ℕ, ◌<◌, true, List, length, map, flat_map, Some, refl, sym, subst, ◌∙◌}
use Rattle.std.specs.Prelude.{slice_get}
use Rattle.std.specs.List.Sorted.{IsStrictlySortedBy}
use Rattle.eif_base.specs.Numbering.{IsNumbering}
use Rattle.eif_classes.specs.Entries.{Origin, deferred, declared_as, clashing}
use Rattle.eif_classes.specs.Names.{name_cmp, name_set}
use Rattle.eif_rows.proofs.ClassSets.{rising-names}
use Rattle.eif_rows.proofs.Matches.{Match-at, length-Match}
use Rattle.eif_rows.proofs.NameSets.{rising-name_set}
use Rattle.eif_rows.specs.Rows.{IsRow}
use Rattle.eif_rows.specs.Systems.{IsSystem}
use Rattle.eif_rows.specs.Versions.{IsVersion}
use Rattle.eif_rows.specs.declared.declaration_id.DeclarationId.{DeclarationId}
use Rattle.eif_rows.specs.declared.row.Row.{Row}
use Rattle.eif_rows.specs.declared.version.Version.TheVariants as v
use Rattle.eif_system.specs.Lineage.{line_of}
use Rattle.eif_table_laws.specs.WholeClasses.{is_whole}
use Rattle.eif_tables.specs.Numbered.{AreTablesOf, IsTableOf, NameEntries}
use Rattle.eif_tables.specs.TablesOf.{AreTables, IsClassTable, IsOrigin}
use Rattle.eif_tables.specs.declared.origin.Origin.TheVariants as o
use Rattle.eif_tables.specs.declared.tables.ClassTable.{ClassTable}
use Rattle.eif_tables.specs.declared.tables.Tables.{Tables}
use Rattle.eif_tables.proofs.Entries.{entries_rise, name_set-numbered}
use Rattle.eif_tree.specs.Tree.{ClassT}

-- ---- where versions come from

module _ (u : List ClassT) where
  pub deferred_origin : (x : Origin) → IsVersion u v.Deferred x → IsOrigin u o.Deferred x
  deferred_origin deferred is = tt
  deferred_origin (declared_as x) is = absurd is
  deferred_origin clashing is = absurd is

  pub attribute_origin : (id : DeclarationId) (x : Origin) → IsVersion u (v.Attribute id) x
      → IsOrigin u (o.Declared id.class_id id.feat) x
  attribute_origin id deferred is = absurd is
  attribute_origin id (declared_as x) is = is.0
  attribute_origin id clashing is = absurd is

  pub routine_origin : (id : DeclarationId) (x : Origin) → IsVersion u (v.Routine id) x
      → IsOrigin u (o.Declared id.class_id id.feat) x
  routine_origin id deferred is = absurd is
  routine_origin id (declared_as x) is = is.0
  routine_origin id clashing is = absurd is

-- ---- tables of rows

pub are_tables : (t : Tables) (rows : List Row) (all : List (List ℕ)) → t.names ≡ name_set all
    → AreTablesOf t.names t.classes.items rows → (u : List ClassT) → IsSystem u
    → ((d : ℕ) → d < length u → is_whole u d ≡ true) → length rows ≡ length u
    → ((d : ℕ) (r : Row) → slice_get rows d ≡ Some r → IsRow u d r) → AreTables u t
are_tables t rows all numbering tables u system whole long are = record {
  system = system;
  whole = whole;
  long = length-Match (IsTableOf t.names) t.classes.items rows tables ∙ long;
  numbered = subst IsNumbering (sym numbering) (name_set-numbered all);
  each = λ d x at.
      let found = Match-at (IsTableOf t.names) t.classes.items rows tables d x at in
      let row : IsRow u d x.row = subst (IsRow u d) (sym found.2.row_is) (are d found.0 found.1) in
      record {
        row_is = row;
        entries_are = entries_rise t.names x.row.names.items x.entries.items
            (subst (IsStrictlySortedBy name_cmp) (sym numbering) (rising-name_set all))
            (subst (IsStrictlySortedBy name_cmp) (sym row.names_are) (rising-names (line_of u d)))
            (subst (λ (r : Row). NameEntries t.names r.names.items x.entries.items) (sym found.2.row_is)
            found.2.entries_are);
      };
}
