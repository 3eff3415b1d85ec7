use Rattle.std.proofs.Common.{refl}
use Rattle.eif_system.specs.Kernel.{kernel}
use Rattle.eif_system.specs.Lineage.{line_of}
use Rattle.eif_body_rules.specs.CallRules.{wrong_arguments, call_of, name_rule, result_rule, call_rule, precursor_rule}
use Rattle.eif_body_rules.specs.Conditions.{tested_name, compared_name}
use Rattle.eif_body_rules.specs.CreationRules.{creation_faults, creation_rule, unfit_type}
use Rattle.eif_body_rules.specs.InstructionFaults.{no_boolean, no_integer, create_instruction_rule}
use Rattle.eif_body_rules.specs.KnownFacts.{without, learned}
use Rattle.eif_body_rules.specs.LocalFlow.{unset_read, unset_name}
use Rattle.eif_body_rules.specs.OperatorRules.{unary_rule, binary_rule}
use Rattle.eif_body_rules.specs.Settings.{meaning, is_local, is_testable}
use Rattle.eif_body_rules.specs.Targets.{target_type, target_rule, assignment_faults}
use Rattle.eif_body_rules.specs.TestRules.{test_faults, bound_local}
use Rattle.eif_body_rules_laws.proofs.call_examples.Goals as goal

pub returns-clause-precursor : goal.returns-clause-precursor
unfolding kernel line_of wrong_arguments call_of name_rule result_rule call_rule precursor_rule tested_name
    compared_name creation_faults creation_rule unfit_type no_boolean no_integer create_instruction_rule without learned
    unset_read unset_name unary_rule binary_rule meaning is_local is_testable target_type target_rule
    assignment_faults test_faults bound_local
returns-clause-precursor c = record {
  redefined = refl;
  not_redefined = refl;
  other_parent = refl;
  named_parent = refl;
  twice = refl;
  in_invariant = refl;
  arguments_first = refl;
  unknown_parent = refl;
  two_parents = refl;
  one_of_two = refl;
  one_undefined = refl;
}

pub returns-clause-name : goal.returns-clause-name
unfolding kernel line_of wrong_arguments call_of name_rule result_rule call_rule precursor_rule tested_name
    compared_name creation_faults creation_rule unfit_type no_boolean no_integer create_instruction_rule without learned
    unset_read unset_name unary_rule binary_rule meaning is_local is_testable target_type target_rule
    assignment_faults test_faults bound_local
returns-clause-name c = record {
  unknown = refl;
  unknown_target = refl;
  unknown_created = refl;
  known = refl;
  local_in_body = refl;
  no_result = refl;
  no_result_target = refl;
  result_in_precondition = refl;
  result = refl;
}

pub returns-clause-qualified : goal.returns-clause-qualified
unfolding kernel line_of wrong_arguments call_of name_rule result_rule call_rule precursor_rule tested_name
    compared_name creation_faults creation_rule unfit_type no_boolean no_integer create_instruction_rule without learned
    unset_read unset_name unary_rule binary_rule meaning is_local is_testable target_type target_rule
    assignment_faults test_faults bound_local
returns-clause-qualified c = record {
  detachable_target = refl;
  void_target = refl;
  attached_target = refl;
  no_feature = refl;
  detachable_first = refl;
  not_available = refl;
  to_another_class_alone = refl;
  available = refl;
  availability_first = refl;
  available_to_heirs = refl;
}

pub returns-clause-argument : goal.returns-clause-argument
unfolding kernel line_of wrong_arguments call_of name_rule result_rule call_rule precursor_rule tested_name
    compared_name creation_faults creation_rule unfit_type no_boolean no_integer create_instruction_rule without learned
    unset_read unset_name unary_rule binary_rule meaning is_local is_testable target_type target_rule
    assignment_faults test_faults bound_local
returns-clause-argument c = record {
  too_many = refl;
  too_few = refl;
  of_entity = refl;
  of_precursor = refl;
  of_creation = refl;
  unfit = refl;
  count_first = refl;
  fit = refl;
}

pub returns-clause-used : goal.returns-clause-used
unfolding kernel line_of wrong_arguments call_of name_rule result_rule call_rule precursor_rule tested_name
    compared_name creation_faults creation_rule unfit_type no_boolean no_integer create_instruction_rule without learned
    unset_read unset_name unary_rule binary_rule meaning is_local is_testable target_type target_rule
    assignment_faults test_faults bound_local
returns-clause-used c = record {
  no_value = refl;
  no_value_of_call = refl;
  result_unused = refl;
  entity_unused = refl;
  used = refl;
  arguments_first = refl;
  argument_first = refl;
  no_value_of_precursor = refl;
  precursor_unused = refl;
}
