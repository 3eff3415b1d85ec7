-- The rules of targets: what can be assigned or created. The type of a target is its declared type, whatever is known
-- of it.
use Rattle.std.specs.Prelude.{ℕ, Bool, false, not, if◌then◌else◌, List, [], ◌++◌, Option, Some, None}
use Rattle.std.specs.Option.{option_map_or}
use Rattle.std.specs.Str.{bytes_eq}
use Rattle.eif_base.specs.declared.code.Code.TheVariants as code
use Rattle.eif_base.specs.declared.fault.Fault.{Fault}
use Rattle.eif_base.specs.declared.place.Place.{Place}
use Rattle.eif_tree.specs.declared.tree.NameAt.{NameAt}
use Rattle.eif_tree.specs.Members.{result_name}
use Rattle.eif_classes.specs.Features.{origin, is_field}
use Rattle.eif_classes.specs.Types.{TyT}
use Rattle.eif_rules.specs.FaultForms.{fault_where}
use Rattle.eif_body_rules.specs.CallRules.{result_rule}
use Rattle.eif_body_rules.specs.Facts.{Fact}
use Rattle.eif_body_rules.specs.Judgements.{Judged, fine, broken}
use Rattle.eif_body_rules.specs.Settings.{Setting, fault, fits, Meaning, test_local, entity, feature, unknown, meaning}

-- the declared type, where the target is resolved and has one; a test's local has none
abbrev pub meant_type : Meaning → Option TyT
meant_type (test_local t) = None
meant_type (entity e) = Some e.type
meant_type (feature g) = g.result
meant_type unknown = None

unfoldable pub target_type : Setting → List Fact → List ℕ → Option TyT
target_type s k x = if bytes_eq x result_name then s.result else meant_type (meaning s k x)

-- the class has an attribute of that name
abbrev pub is_attribute_name : Setting → List ℕ → Bool
is_attribute_name s x = option_map_or is_field (origin s.line x) false

-- a local or an attribute
abbrev pub is_variable : Setting → List ℕ → Meaning → Bool
is_variable s x (test_local t) = false
is_variable s x (entity e) = e.is_local
is_variable s x (feature g) = is_attribute_name s x
is_variable s x unknown = false

-- VBAR.1: the target is no local, no Result and no attribute
abbrev pub variable_type : Setting → NameAt → Bool → Option TyT → Judged TyT
variable_type s x is_one None = broken (fault s code.Vbar 1 x.place x.name)
variable_type s x is_one (Some t) = if is_one then fine t else broken (fault s code.Vbar 1 x.place x.name)

-- VEEN.1: the target denotes nothing
abbrev pub named_target : Setting → NameAt → Meaning → Judged TyT
named_target s x unknown = broken (fault s code.Veen 1 x.place x.name)
named_target s x m = variable_type s x (is_variable s x.name m) (meant_type m)

-- VEEN.2: it is `Result` where that isn't visible
unfoldable pub target_rule : Setting → List Fact → NameAt → Judged TyT
target_rule s k x =
    if bytes_eq x.name result_name then result_rule s x.place else named_target s x (meaning s k x.name)

-- VBAR.2: the type of the source, which stands at p, doesn't conform to that of the target
abbrev pub unfit_source : Setting → NameAt → Place → TyT → TyT → List Fault
unfit_source s x p source target = fault_where (not (fits s source target)) (fault s code.Vbar 2 p x.name)

-- of an assignment whose source has that type; VBAR.2 is judged apart, also where VBAR.1 is broken
unfoldable pub assignment_faults : Setting → List Fact → NameAt → Place → TyT → List Fault
assignment_faults s k x p t =
    (target_rule s k x).faults ++ option_map_or (unfit_source s x p t) (target_type s k x.name) []
