-- Where an expression stands, and what its names denote there.
use Rattle.std.specs.Prelude.{ℕ, Bool, false, if◌then◌else◌, List, Option, Some, None, is_some}
use Rattle.std.specs.List.{find}
use Rattle.std.specs.Option.{option_map_or}
use Rattle.std.specs.Str.{bytes_eq}
use Rattle.eif_base.specs.declared.code.Code.{Code}
use Rattle.eif_base.specs.declared.fault.Fault.{Fault}
use Rattle.eif_base.specs.declared.place.Place.{Place}
use Rattle.eif_tree.specs.Tree.{ClassT}
use Rattle.eif_classes.specs.Conformance.{conforms}
use Rattle.eif_system.specs.Lineage.{Line}
use Rattle.eif_classes.specs.Signatures.{Signature, signature}
use Rattle.eif_classes.specs.Types.{TyT, attached_form}
use Rattle.eif_rules.specs.FaultForms.{fault_in}
use Rattle.eif_body_rules.specs.Facts.{Fact, Usable, usable_test}

-- an argument or a local, with its declared type
pub record Entity : Type 0 where
  pub place : Place
  pub name : List ℕ
  pub type : TyT
  pub is_local : Bool

pub record Setting : Type 0 where
  pub universe : List ClassT
  -- the class: its number, its text, its line
  pub number : ℕ
  pub text : ClassT
  pub line : Line
  -- the name that faults are told of
  pub feature : List ℕ
  -- the declared name; none in the class invariant
  pub declared : Option (List ℕ)
  -- the visible arguments and locals, in the order of the text
  pub entities : List Entity
  -- the type of Result, where it is visible
  pub result : Option TyT

abbrev pub fault : Setting → Code → ℕ → Place → List ℕ → Fault
fault s code case place about = fault_in s.text s.feature code case place about

-- a type conforms to another in the class
abbrev pub fits : Setting → TyT → TyT → Bool
fits s a b = conforms s.universe s.number a b

-- ---- names

-- of several arguments and locals of one name the first
abbrev pub entity_of : Setting → List ℕ → Option Entity
entity_of s x = find (λ e. bytes_eq e.name x) s.entities

unfoldable pub is_local : Setting → List ℕ → Bool
is_local s x = option_map_or (λ e. e.is_local) (entity_of s x) false

-- a void test of the name tells that it is attached: an argument or a local. The type of a test's local is in attached
-- form already, or it is NONE or none, so that nothing has to be told of it
unfoldable pub is_testable : Setting → List ℕ → Bool
is_testable s x = is_some (entity_of s x)

-- what an unqualified name denotes
pub data Meaning : Type 0 where
  -- a test's local, which may have no type
  test_local : Option TyT → Meaning
  entity : Entity → Meaning
  feature : Signature → Meaning
  unknown : Meaning

abbrev pub or_feature : Option Signature → Meaning
or_feature None = unknown
or_feature (Some g) = feature g

abbrev pub or_entity : Meaning → Option Entity → Meaning
or_entity other None = other
or_entity other (Some e) = entity e

abbrev pub or_test : Meaning → Option Usable → Meaning
or_test other None = other
or_test other (Some t) = test_local t.type

-- a test's local that may be used, an argument or local, or a feature of the class
unfoldable pub meaning : Setting → List Fact → List ℕ → Meaning
meaning s k x =
    or_test (or_entity (or_feature (signature s.universe s.line x)) (entity_of s x)) (usable_test k x)

-- the declared type, in its attached form where the name is known to be attached
abbrev pub seen_type : Bool → TyT → TyT
seen_type known t = if known then attached_form t else t
