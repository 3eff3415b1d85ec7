-- Where versions come from, by numbers.
use Rattle.std.specs.Prelude.{◌≡◌, ℕ, ◌==◌, Bool, true, false, ◌&&◌, List, Option, Some, None, slice_get}
use Rattle.eif_classes.specs.Entries.{Declaration, Origin, deferred, declared_as, clashing}
use Rattle.eif_classes.specs.Features.{names, declaration_of, is_attribute}
use Rattle.eif_rows.specs.Numbers.{name_of}
use Rattle.eif_rows.specs.declared.declaration_id.DeclarationId.{DeclarationId}
use Rattle.eif_rows.specs.declared.version.Version.{Version}
use Rattle.eif_rows.specs.declared.version.Version.TheVariants as v
use Rattle.eif_system.specs.Lineage.{line_of}
use Rattle.eif_tree.specs.Tree.{ClassT}

-- ---- a version by itself

-- there is none
abbrev pub is_deferred_version : Version → Bool
is_deferred_version v.Deferred = true
is_deferred_version (v.Attribute id) = false
is_deferred_version (v.Routine id) = false

-- it is an attribute
abbrev pub is_attribute_version : Version → Bool
is_attribute_version v.Deferred = false
is_attribute_version (v.Attribute id) = true
is_attribute_version (v.Routine id) = false

-- the declaration that it comes from
abbrev pub declaration_id : Version → Option DeclarationId
declaration_id v.Deferred = None
declaration_id (v.Attribute id) = Some id
declaration_id (v.Routine id) = Some id

-- one class and one name
abbrev pub same_declaration : Option DeclarationId → Option DeclarationId → Bool
same_declaration None None = true
same_declaration (Some x) (Some y) = (x.class_id.0 == y.class_id.0) && (x.feat.0 == y.feat.0)
same_declaration None (Some y) = false
same_declaration (Some x) None = false

-- ---- what it stands for

-- the declaration x, by the number of its class and that of its name there
pub record IsDeclaration (u : List ClassT) (id : DeclarationId) (x : Declaration) : Type 0 where
  pub class : id.class_id.0 ≡ x.class_number
  pub name : name_of (names (line_of u x.class_number)) id.feat ≡ Some x.name
  pub tree : (c : ClassT) × (slice_get u x.class_number ≡ Some c) × (declaration_of c x.name ≡ Some x.tree)

-- the version of this origin; where origins clash there is none
abbrev pub IsVersion : List ClassT → Version → Origin → Type 0
IsVersion u v.Deferred deferred = Unit {0}
IsVersion u (v.Attribute id) (declared_as x) = IsDeclaration u id x × (is_attribute x.tree.kind ≡ true)
IsVersion u (v.Routine id) (declared_as x) = IsDeclaration u id x × (is_attribute x.tree.kind ≡ false)
IsVersion u _ _ = ⊥

-- the same, and nothing where origins clash
abbrev pub IsVersionIfOne : List ClassT → Option Version → Origin → Type 0
IsVersionIfOne u None clashing = Unit {0}
IsVersionIfOne u (Some v) o = IsVersion u v o
IsVersionIfOne u None deferred = ⊥
IsVersionIfOne u None (declared_as x) = ⊥
