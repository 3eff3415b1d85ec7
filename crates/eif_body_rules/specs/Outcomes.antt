-- What a call gives, and how it is used: as an expression, or as an instruction.
use Rattle.std.specs.Prelude.{ℕ, nat_lt, Bool, false, ◌||◌, List, [], Option, Some, None}
use Rattle.std.specs.List.{list_any}
use Rattle.std.specs.Option.{option_map_or}
use Rattle.eif_base.specs.declared.code.Code.TheVariants as code
use Rattle.eif_base.specs.declared.limits.TheConstants.{MOST_TYPE_NAMES}
use Rattle.eif_base.specs.declared.place.Place.{Place}
use Rattle.eif_classes.specs.Signatures.{Signature}
use Rattle.eif_classes.specs.Types.{TyT, name_count}
use Rattle.eif_rules.specs.FaultForms.{fault_where}
use Rattle.eif_body_rules.specs.Judgements.{Judged, fine, untyped, broken, unless}
use Rattle.eif_body_rules.specs.Settings.{Setting, fault}

pub data Given : Type 0 where
  -- a call without result
  nothing : Given
  -- a result, or the value of an entity, which may have no type
  a_value : Option TyT → Given

pub record Outcome : Type 0 where
  pub gives : Given
  -- a type of the called feature has too many names
  pub is_long : Bool

abbrev pub given : Option TyT → Given
given None = nothing
given (Some t) = a_value (Some t)

-- more names than a type may have
abbrev pub has_too_many : TyT → Bool
has_too_many t = nat_lt MOST_TYPE_NAMES (name_count t)

abbrev pub outcome : Signature → Outcome
outcome g = record {
  gives = given g.result;
  is_long = list_any has_too_many g.arguments || option_map_or has_too_many g.result false;
}

-- XLIM.7: a type of the called feature has too many names
abbrev pub long_type : {A : Type 0} → Setting → Place → Bool → A → Judged A
long_type s p is_long a = unless (fault_where is_long (fault s code.Xlim 7 p [])) (fine a)

-- XUSE.1: a call without result stands as an expression
abbrev pub value_of : Setting → Place → Place → List ℕ → Bool → Given → Judged TyT
value_of s p q x is_long nothing = broken (fault s code.Xuse 1 q x)
value_of s p q x is_long (a_value None) = untyped
value_of s p q x is_long (a_value (Some t)) = long_type s p is_long t

-- as an expression, which stands at p, of what is called x at q
abbrev pub as_value : Setting → Place → Place → List ℕ → Outcome → Judged TyT
as_value s p q x o = value_of s p q x o.is_long o.gives

-- XUSE.2: a call with a result, or an entity, stands as an instruction
abbrev pub instruction_of : Setting → Place → Place → List ℕ → Bool → Given → Judged (Unit {0})
instruction_of s p q x is_long nothing = long_type s p is_long tt
instruction_of s p q x is_long (a_value t) = broken (fault s code.Xuse 2 q x)

-- as an instruction
abbrev pub as_instruction : Setting → Place → Place → List ℕ → Outcome → Judged (Unit {0})
as_instruction s p q x o = instruction_of s p q x o.is_long o.gives
