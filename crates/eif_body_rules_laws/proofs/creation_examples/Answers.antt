use Rattle.std.proofs.Common.{refl}
use Rattle.eif_system.specs.Kernel.{kernel}
use Rattle.eif_system.specs.Lineage.{line_of}
use Rattle.eif_body_rules.specs.CallRules.{wrong_arguments, call_of, name_rule, result_rule, call_rule, precursor_rule}
use Rattle.eif_body_rules.specs.Conditions.{tested_name, compared_name}
use Rattle.eif_body_rules.specs.CreationRules.{creation_faults, creation_rule, unfit_type}
use Rattle.eif_body_rules.specs.InstructionFaults.{no_boolean, no_integer, create_instruction_rule}
use Rattle.eif_body_rules.specs.KnownFacts.{without, learned}
use Rattle.eif_body_rules.specs.LocalFlow.{unset_read, unset_name}
use Rattle.eif_body_rules.specs.OperatorRules.{unary_rule, binary_rule}
use Rattle.eif_body_rules.specs.Settings.{meaning, is_local, is_testable}
use Rattle.eif_body_rules.specs.Targets.{target_type, target_rule, assignment_faults}
use Rattle.eif_body_rules.specs.TestRules.{test_faults, bound_local}
use Rattle.eif_body_rules_laws.proofs.creation_examples.Goals as goal

pub returns-clause-instruction : goal.returns-clause-instruction
unfolding kernel line_of wrong_arguments call_of name_rule result_rule call_rule precursor_rule tested_name
    compared_name creation_faults creation_rule unfit_type no_boolean no_integer create_instruction_rule without learned
    unset_read unset_name unary_rule binary_rule meaning is_local is_testable target_type target_rule
    assignment_faults test_faults bound_local
returns-clause-instruction c = record {
  formal_type = refl;
  marked = refl;
  target_marked = refl;
  deferred = refl;
  basic = refl;
  no_creator = refl;
  no_default_creator = refl;
  unfit = refl;
  creator = refl;
  wrong_count = refl;
  wrong_argument = refl;
  right_argument = refl;
  type_first = refl;
  mark_first = refl;
  deferred_first = refl;
  default_creator = refl;
  arguments_first = refl;
}

pub returns-clause-expression : goal.returns-clause-expression
unfolding kernel line_of wrong_arguments call_of name_rule result_rule call_rule precursor_rule tested_name
    compared_name creation_faults creation_rule unfit_type no_boolean no_integer create_instruction_rule without learned
    unset_read unset_name unary_rule binary_rule meaning is_local is_testable target_type target_rule
    assignment_faults test_faults bound_local
returns-clause-expression c = record {
  formal_type = refl;
  marked = refl;
  deferred = refl;
  basic = refl;
  no_creator = refl;
  no_default_creator = refl;
  creator = refl;
  not_available = refl;
}
