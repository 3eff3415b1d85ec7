-- The rules along instructions: k is what is known, set the names that are surely set.
use Rattle.std.specs.Prelude.{ℕ, true, false, not, List, [], ◌++◌, Option, Some, None}
use Rattle.eif_base.specs.declared.code.Code.TheVariants as code
use Rattle.eif_base.specs.declared.fault.Fault.{Fault}
use Rattle.eif_base.specs.declared.place.Place.{Place}
use Rattle.eif_tree.specs.declared.tree.NameAt.{NameAt}
use Rattle.eif_tree.specs.ExpressionPlaces.{place_of}
use Rattle.eif_tree.specs.Tree.{TypeT, Ex, unqualified, precursor, qualified, Exs, no_exs, and_ex, Ins, assign, call, create, choose, loop, check, Inss, no_inss, and_ins, Branches, no_branches, and_branch, Otherwise, no_else, else_part}
use Rattle.eif_classes.specs.Types.{TyT, attached_form}
use Rattle.eif_rules.specs.FaultForms.{fault_where}
use Rattle.eif_body_rules.specs.CallRules.{Argument, name_rule, call_rule, precursor_rule}
use Rattle.eif_body_rules.specs.CreationRules.{Creation, of_written, creation_faults, creation_rule, unfit_type}
use Rattle.eif_body_rules.specs.ExpressionTypes.{judge, judge_all, first_argument, type_of, faults_of}
use Rattle.eif_body_rules.specs.Facts.{Fact}
use Rattle.eif_body_rules.specs.Judgements.{Judged, fine, first_of, ◌▹◌, ◌⊗◌, where_typed}
use Rattle.eif_body_rules.specs.KnownFacts.{known_after, known_in_loop, known_where, known_otherwise}
use Rattle.eif_body_rules.specs.LocalFlow.{unset_reads, unset_reads_of_call, set_after, set_after_all}
use Rattle.eif_body_rules.specs.OperatorRules.{integer, boolean}
use Rattle.eif_body_rules.specs.Outcomes.{as_instruction}
use Rattle.eif_body_rules.specs.Settings.{Setting, fault, fits}
use Rattle.eif_body_rules.specs.Targets.{target_rule, assignment_faults}
use Rattle.eif_body_rules.specs.TestRules.{test_names}

-- of a whole expression
abbrev pub expression_faults : Setting → List Fact → List (List ℕ) → Ex → List Fault
expression_faults s k set e = faults_of s k e ++ unset_reads s k set e

-- ---- conditions and variants

-- VWBE.1: the type of a condition, exit or assertion, which stands at p, doesn't conform to BOOLEAN
unfoldable pub no_boolean : Setting → Place → TyT → List Fault
no_boolean s p t = fault_where (not (fits s t boolean)) (fault s code.Vwbe 1 p [])

-- VWBE.2: the type of a loop variant, which stands at p, doesn't conform to INTEGER
unfoldable pub no_integer : Setting → Place → TyT → List Fault
no_integer s p t = fault_where (not (fits s t integer)) (fault s code.Vwbe 2 p [])

abbrev pub condition_faults : Setting → List Fact → List (List ℕ) → Ex → List Fault
condition_faults s k set e = expression_faults s k set e ++ where_typed (type_of s k e) (no_boolean s (place_of e))

-- one assertion tells nothing to the next
abbrev pub assertion_faults : Setting → List Fact → List (List ℕ) → Exs → List Fault
assertion_faults s k set no_exs = []
assertion_faults s k set (and_ex e es) = condition_faults s k set e ++ assertion_faults s k set es

abbrev pub variant_faults : Setting → List Fact → List (List ℕ) → Option Ex → List Fault
variant_faults s k set None = []
variant_faults s k set (Some e) =
    expression_faults s k set e ++ where_typed (type_of s k e) (no_integer s (place_of e))

-- the invariant, exit and variant of a loop
abbrev pub loop_faults : Setting → List Fact → List (List ℕ) → Exs → Ex → Option Ex → List Fault
loop_faults s k set claims exit variant =
    assertion_faults s k set claims ++ condition_faults s k set exit ++ variant_faults s k set variant

-- ---- calls

-- an expression that is no call is judged as one that is dropped
abbrev pub dropped : TyT → Judged (Unit {0})
dropped t = fine tt

abbrev pub call_judged : Setting → List Fact → Ex → Judged (Unit {0})
call_judged s k (unqualified p x args) = judge_all s k [] args ▹ name_rule s k p x ▹ as_instruction s p p x
call_judged s k (precursor p x args) =
    judge_all s k [] args ▹ precursor_rule s p x ▹ as_instruction s p p s.feature
call_judged s k (qualified p e x args) =
    judge s k [] e ⊗ judge_all s k (test_names e) args
    ▹ call_rule s (place_of e) x ▹ as_instruction s p x.place x.name
call_judged s k e = judge s k [] e ▹ dropped

-- ---- creations

-- each argument is a whole expression
abbrev pub judge_each : Setting → List Fact → Exs → Judged (List Argument)
judge_each s k no_exs = fine []
judge_each s k (and_ex e es) = judge s k [] e ⊗ judge_each s k es ▹ first_argument (place_of e)

abbrev pub all_unset_reads : Setting → List Fact → List (List ℕ) → Exs → List Fault
all_unset_reads s k set no_exs = []
all_unset_reads s k set (and_ex e es) = unset_reads s k set e ++ all_unset_reads s k set es

-- of a target's type where none is written: its attached form
abbrev pub of_target : Place → TyT → Option NameAt → Creation
of_target p t y = record { code = code.Vgci; place = p; type = attached_form t; is_marked = false; creator = y }

-- of a written type, for a target x of type t
abbrev pub created_by_written_type : Setting → Creation → List ℕ → TyT → List Argument → Judged TyT
created_by_written_type s c x t args =
    creation_rule s c (first_of (creation_faults s c) (unfit_type s c x t)) args

-- for a target x of type t, by the written type, if there is one
abbrev pub created_for :
    Setting → Place → Option TypeT → NameAt → Option NameAt → List Argument → TyT → Judged TyT
created_for s p None x y args t = creation_rule s (of_target p t y) (creation_faults s (of_target p t y)) args
created_for s p (Some w) x y args t =
    created_by_written_type s (of_written s code.Vgci p w y) x.name t args

-- judged where the arguments are typed; the rules of the target come first
unfoldable pub create_instruction_rule :
    Setting → List Fact → Place → Option TypeT → NameAt → Option NameAt → List Argument → Judged TyT
create_instruction_rule s k p t x y args = target_rule s k x ▹ created_for s p t x y args

-- ---- instructions

abbrev mutual
  pub instruction_faults : Setting → List Fact → List (List ℕ) → Ins → List Fault
  instruction_faults s k set (assign x e) =
      expression_faults s k set e ++ where_typed (type_of s k e) (assignment_faults s k x (place_of e))
  instruction_faults s k set (call e) = (call_judged s k e).faults ++ unset_reads_of_call s k set e
  instruction_faults s k set (create p t x y args) =
      (judge_each s k args ▹ create_instruction_rule s k p t x y).faults ++ all_unset_reads s k set args
  instruction_faults s k set (choose bs o) =
      branch_faults s k set bs ++ otherwise_faults s (known_otherwise s k bs) set o
  instruction_faults s k set (loop start claims exit body variant) =
      compound_faults s k set start
      ++ loop_faults s (known_in_loop s k start body) (set_after_all set start) claims exit variant
      ++ compound_faults s (known_where s (known_in_loop s k start body) false exit) (set_after_all set start) body
  instruction_faults s k set (check claims) = assertion_faults s k set claims

  pub compound_faults : Setting → List Fact → List (List ℕ) → Inss → List Fault
  compound_faults s k set no_inss = []
  compound_faults s k set (and_ins i is) =
      instruction_faults s k set i ++ compound_faults s (known_after s k i) (set_after set i) is

  -- a condition tells its branch where it is true, and the later ones where it is false
  pub branch_faults : Setting → List Fact → List (List ℕ) → Branches → List Fault
  branch_faults s k set no_branches = []
  branch_faults s k set (and_branch e is bs) =
      condition_faults s k set e ++ compound_faults s (known_where s k true e) set is
      ++ branch_faults s (known_where s k false e) set bs

  pub otherwise_faults : Setting → List Fact → List (List ℕ) → Otherwise → List Fault
  otherwise_faults s k set no_else = []
  otherwise_faults s k set (else_part is) = compound_faults s k set is
