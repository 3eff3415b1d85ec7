-- Systems that break no rule up to those of derivations, with what is kept of their classes.
use Rattle.std.specs.Prelude.{◌≡◌, List}
use Rattle.eif_base.specs.declared.class_id.ClassId.{ClassId}
use Rattle.eif_base.specs.declared.feat_id.FeatId.{FeatId}
use Rattle.eif_base.specs.declared.root.Root.{Root}
use Rattle.eif_binding_laws.specs.WellFormed.{IsDerived}
use Rattle.eif_rows.specs.declared.declaration_id.DeclarationId.{DeclarationId}
use Rattle.eif_signatures.specs.declared.system.System.{System}
use Rattle.eif_system.specs.Universe.{universe}
use Rattle.eif_tables.specs.TablesOf.{AreTables}
use Rattle.eif_tables.specs.declared.tables.Tables.{Tables}
use Rattle.eif_tree.specs.Tree.{ClassT}
use Rattle.eif_types.specs.TypeTables.{AreTypes}
use Rattle.eif_types.specs.declared.types.Types.{Types}
use Rattle.eif_universe.specs.Universes.{classes_of}

-- the universe is that of given classes which break no rule up to those of derivations, and these are its tables and
-- its types
pub record IsDerivedUniverse (u : List ClassT) (tables : Tables) (types : Types) : Type 0 where
  pub given : List ClassT
  pub root : Root
  pub is : u ≡ universe given
  pub derived : IsDerived given root
  pub tables_are : AreTables u tables
  pub types_are : AreTypes u types

-- its classes
abbrev pub classes_in : System → List ClassT
classes_in s = classes_of s.universe.now

abbrev pub IsDerivedSystem : System → Type 0
IsDerivedSystem s = IsDerivedUniverse (classes_in s) s.tables.now s.types.now

-- a name of a class, as what the class declares under it
abbrev pub declaration_id : ClassId → FeatId → DeclarationId
declaration_id class feat = record { class_id = class; feat = feat }
