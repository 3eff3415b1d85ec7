use Rattle.std.proofs.Common.{refl}
use Rattle.eif_system.specs.Kernel.{kernel}
use Rattle.eif_system.specs.Lineage.{line_of}
use Rattle.eif_body_rules.specs.CallRules.{wrong_arguments, call_of, name_rule, result_rule, call_rule, precursor_rule}
use Rattle.eif_body_rules.specs.Conditions.{tested_name, compared_name}
use Rattle.eif_body_rules.specs.CreationRules.{creation_faults, creation_rule, unfit_type}
use Rattle.eif_body_rules.specs.InstructionFaults.{no_boolean, no_integer, create_instruction_rule}
use Rattle.eif_body_rules.specs.KnownFacts.{without, learned}
use Rattle.eif_body_rules.specs.LocalFlow.{unset_read, unset_name}
use Rattle.eif_body_rules.specs.OperatorRules.{unary_rule, binary_rule}
use Rattle.eif_body_rules.specs.Settings.{meaning, is_local, is_testable}
use Rattle.eif_body_rules.specs.Targets.{target_type, target_rule, assignment_faults}
use Rattle.eif_body_rules.specs.TestRules.{test_faults, bound_local}
use Rattle.eif_body_rules_laws.proofs.flow_examples.Goals as goal

pub returns-clause-condition : goal.returns-clause-condition
unfolding kernel line_of wrong_arguments call_of name_rule result_rule call_rule precursor_rule tested_name
    compared_name creation_faults creation_rule unfit_type no_boolean no_integer create_instruction_rule without learned
    unset_read unset_name unary_rule binary_rule meaning is_local is_testable target_type target_rule
    assignment_faults test_faults bound_local
returns-clause-condition c = record {
  condition = refl;
  exit = refl;
  assertions = refl;
  loop_invariant = refl;
  untyped = refl;
  conditions = refl;
  no_integer = refl;
  integer = refl;
}

pub returns-clause-local : goal.returns-clause-local
unfolding kernel line_of wrong_arguments call_of name_rule result_rule call_rule precursor_rule tested_name
    compared_name creation_faults creation_rule unfit_type no_boolean no_integer create_instruction_rule without learned
    unset_read unset_name unary_rule binary_rule meaning is_local is_testable target_type target_rule
    assignment_faults test_faults bound_local
returns-clause-local c = record {
  unset = refl;
  set = refl;
  in_source = refl;
  one_branch = refl;
  each_branch = refl;
  loop_body = refl;
  loop_start = refl;
  self_initialising = refl;
  formal_type = refl;
  untyped_call = refl;
  instruction = refl;
  in_assertion = refl;
  hidden = refl;
  in_loop = refl;
}

pub returns-clause-result : goal.returns-clause-result
unfolding kernel line_of wrong_arguments call_of name_rule result_rule call_rule precursor_rule tested_name
    compared_name creation_faults creation_rule unfit_type no_boolean no_integer create_instruction_rule without learned
    unset_read unset_name unary_rule binary_rule meaning is_local is_testable target_type target_rule
    assignment_faults test_faults bound_local
returns-clause-result c = record {
  unset = refl;
  at_end = refl;
  set = refl;
  always = refl;
  self_initialising = refl;
  no_body = refl;
}
