use Rattle.std.proofs.Common.{refl}
use Rattle.eif_system.specs.Kernel.{kernel}
use Rattle.eif_system.specs.Lineage.{line_of}
use Rattle.eif_body_rules.specs.CallRules.{wrong_arguments, call_of, name_rule, result_rule, call_rule, precursor_rule}
use Rattle.eif_body_rules.specs.Conditions.{tested_name, compared_name}
use Rattle.eif_body_rules.specs.CreationRules.{creation_faults, creation_rule, unfit_type}
use Rattle.eif_body_rules.specs.InstructionFaults.{no_boolean, no_integer, create_instruction_rule}
use Rattle.eif_body_rules.specs.KnownFacts.{without, learned}
use Rattle.eif_body_rules.specs.LocalFlow.{unset_read, unset_name}
use Rattle.eif_body_rules.specs.OperatorRules.{unary_rule, binary_rule}
use Rattle.eif_body_rules.specs.Settings.{meaning, is_local, is_testable}
use Rattle.eif_body_rules.specs.Targets.{target_type, target_rule, assignment_faults}
use Rattle.eif_body_rules.specs.TestRules.{test_faults, bound_local}
use Rattle.eif_body_rules_laws.proofs.fact_examples.Goals as goal

pub returns-clause-told : goal.returns-clause-told
unfolding kernel line_of wrong_arguments call_of name_rule result_rule call_rule precursor_rule tested_name
    compared_name creation_faults creation_rule unfit_type no_boolean no_integer create_instruction_rule without learned
    unset_read unset_name unary_rule binary_rule meaning is_local is_testable target_type target_rule
    assignment_faults test_faults bound_local
returns-clause-told c = record {
  not_void = refl;
  is_void = refl;
  tested = refl;
  negated = refl;
  both = refl;
  either = refl;
  implied = refl;
  apart = refl;
  equal_names = refl;
  not_a_name = refl;
}

pub returns-clause-right : goal.returns-clause-right
unfolding kernel line_of wrong_arguments call_of name_rule result_rule call_rule precursor_rule tested_name
    compared_name creation_faults creation_rule unfit_type no_boolean no_integer create_instruction_rule without learned
    unset_read unset_name unary_rule binary_rule meaning is_local is_testable target_type target_rule
    assignment_faults test_faults bound_local
returns-clause-right c = record {
  and_then = refl;
  strict_and = refl;
  or_else = refl;
  strict_or = refl;
  implication = refl;
  wrong_value = refl;
  test_local = refl;
  argument = refl;
}

pub returns-clause-scope : goal.returns-clause-scope
unfolding kernel line_of wrong_arguments call_of name_rule result_rule call_rule precursor_rule tested_name
    compared_name creation_faults creation_rule unfit_type no_boolean no_integer create_instruction_rule without learned
    unset_read unset_name unary_rule binary_rule meaning is_local is_testable target_type target_rule
    assignment_faults test_faults bound_local
returns-clause-scope c = record {
  later_conditions = refl;
  after_if = refl;
  loop = refl;
  loop_assertions = refl;
  next_assertion = refl;
  nested = refl;
  test_local = refl;
  earliest = refl;
  feature = refl;
}
