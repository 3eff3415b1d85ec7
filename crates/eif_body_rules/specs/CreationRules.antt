-- The rules of creations: what can be created, by which creator, and to which target an instruction gives it.
use Rattle.std.specs.Prelude.{ℕ, Bool, false, not, ◌||◌, List, [], Option, Some, None, is_none, slice_get}
use Rattle.std.specs.Option.{option_map, option_map_or, option_and_then, option_or}
use Rattle.eif_base.specs.declared.code.Code.{Code}
use Rattle.eif_base.specs.declared.fault.Fault.{Fault}
use Rattle.eif_base.specs.declared.place.Place.{Place}
use Rattle.eif_tree.specs.declared.tree.NameAt.{NameAt}
use Rattle.eif_tree.specs.Tree.{TypeT}
use Rattle.eif_rules.specs.FaultForms.{fault_where}
use Rattle.eif_rules.specs.UniverseRules.{is_detachable}
use Rattle.eif_classes.specs.Constraints.{class_in}
use Rattle.eif_classes.specs.Creators.{default_creator, is_creator_for}
use Rattle.eif_classes.specs.KernelNumbers.{is_basic}
use Rattle.eif_system.specs.Lineage.{Line, line_by, line_of}
use Rattle.eif_classes.specs.Resolution.{resolved, actuals_in}
use Rattle.eif_classes.specs.Signatures.{Signature, signature, with_actuals}
use Rattle.eif_classes.specs.Types.{TyT, class_type, formal_type, none_type, attached_form}
use Rattle.eif_system.specs.WrittenTypes.{type_mark}
use Rattle.eif_body_rules.specs.CallRules.{Argument, call_of}
use Rattle.eif_body_rules.specs.Judgements.{Judged, broken, unless, first_of, ◌▹◌}
use Rattle.eif_body_rules.specs.Outcomes.{Outcome, long_type}
use Rattle.eif_body_rules.specs.Settings.{Setting, fault, fits}

-- what is to be created, as VGCE of an expression or VGCI of an instruction
pub record Creation : Type 0 where
  pub code : Code
  -- of `create`
  pub place : Place
  pub type : TyT
  -- the type is written with the mark detachable
  pub is_marked : Bool
  -- the creator, if one is named
  pub creator : Option NameAt

-- of a written type
abbrev pub of_written : Setting → Code → Place → TypeT → Option NameAt → Creation
of_written s code place t creator = record {
  code = code;
  place = place;
  type = resolved s.universe s.text t;
  is_marked = is_detachable (type_mark t);
  creator = creator;
}

-- ---- names in faults

-- the name of a class or formal
abbrev pub type_text : Setting → TyT → List ℕ
type_text s (class_type k m ts) = option_map_or (λ c. c.name) (slice_get s.universe k) []
type_text s (formal_type i m) = option_map_or (λ f. f.name) (slice_get s.text.formals i) []
type_text s none_type = []

-- the line of the class that is created
abbrev pub created_line : Setting → Creation → Line
created_line s c = line_by (line_of s.universe) (class_in c.type)

-- the named creator, else the one that ANY's `default_create` is in the class
abbrev pub creator_name : Setting → Creation → Option (List ℕ)
creator_name s c = option_or (option_map (λ n. n.name) c.creator) (default_creator (created_line s c))

abbrev pub creator_text : Setting → Creation → List ℕ
creator_text s c = option_map_or (λ n. n) (creator_name s c) []

-- where the creator is named, else `create`
abbrev pub creator_place : Creation → Place
creator_place c = option_map_or (λ n. n.place) c.creator c.place

-- ---- what can be created

-- VGCI.1, VGCE.1: the type is a formal, or is written with the mark detachable
abbrev pub wrong_created_type : Setting → Creation → List Fault
wrong_created_type s c =
    fault_where (is_none (class_in c.type) || c.is_marked) (fault s c.code 1 c.place (type_text s c.type))

abbrev pub is_deferred : Setting → ℕ → Bool
is_deferred s k = option_map_or (λ c. c.is_deferred) (slice_get s.universe k) false

-- VGCI.2, VGCE.2: the class is marked deferred
abbrev pub deferred_class : Setting → Creation → List Fault
deferred_class s c =
    fault_where (option_map_or (is_deferred s) (class_in c.type) false) (fault s c.code 2 c.place (type_text s c.type))

-- VGCI.3, VGCE.3: the class is INTEGER, BOOLEAN or CHARACTER
abbrev pub basic_class : Setting → Creation → List Fault
basic_class s c =
    fault_where (option_map_or is_basic (class_in c.type) false) (fault s c.code 3 c.place (type_text s c.type))

abbrev pub is_creator : Setting → Line → List ℕ → Bool
is_creator s l n = is_creator_for s.universe l n s.number

-- VGCI.4, VGCE.4: it is no creator of the class that is available here
abbrev pub no_creator : Setting → Creation → List Fault
no_creator s c =
    fault_where (not (option_map_or (is_creator s (created_line s c)) (creator_name s c) false))
    (fault s c.code 4 c.place (creator_text s c))

-- the first of these
unfoldable pub creation_faults : Setting → Creation → List Fault
creation_faults s c =
    first_of (wrong_created_type s c)
    (first_of (deferred_class s c) (first_of (basic_class s c) (no_creator s c)))

-- ---- the call of the creator

-- a creator is a feature of its class; else it is none
abbrev pub creator_call : Setting → Creation → List Argument → Option Signature → Judged Outcome
creator_call s c args None = broken (fault s c.code 4 c.place (creator_text s c))
creator_call s c args (Some g) =
    call_of s (creator_place c) (creator_text s c) args (with_actuals (actuals_in c.type) g)

-- the signature of the creator in its class
abbrev pub creator_signature : Setting → Creation → Option Signature
creator_signature s c = option_and_then (signature s.universe (created_line s c)) (creator_name s c)

-- the type is that in attached form
abbrev pub creation_type : Setting → Creation → Outcome → Judged TyT
creation_type s c o = long_type s c.place o.is_long (attached_form c.type)

-- where these rules are kept
unfoldable pub creation_rule : Setting → Creation → List Fault → List Argument → Judged TyT
creation_rule s c wrong args =
    unless wrong (creator_call s c args (creator_signature s c) ▹ creation_type s c)

-- VGCI.5: the written type of an instruction doesn't conform to the target's
unfoldable pub unfit_type : Setting → Creation → List ℕ → TyT → List Fault
unfit_type s c x target = fault_where (not (fits s c.type target)) (fault s c.code 5 c.place x)
