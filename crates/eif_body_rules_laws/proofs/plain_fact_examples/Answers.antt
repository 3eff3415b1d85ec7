use Rattle.std.proofs.Common.{refl}
use Rattle.eif_system.specs.Kernel.{kernel}
use Rattle.eif_system.specs.Lineage.{line_of}
use Rattle.eif_body_rules.specs.CallRules.{wrong_arguments, call_of, name_rule, result_rule, call_rule, precursor_rule}
use Rattle.eif_body_rules.specs.Conditions.{tested_name, compared_name}
use Rattle.eif_body_rules.specs.CreationRules.{creation_faults, creation_rule, unfit_type}
use Rattle.eif_body_rules.specs.InstructionFaults.{no_boolean, no_integer, create_instruction_rule}
use Rattle.eif_body_rules.specs.KnownFacts.{without, learned}
use Rattle.eif_body_rules.specs.LocalFlow.{unset_read, unset_name}
use Rattle.eif_body_rules.specs.OperatorRules.{unary_rule, binary_rule}
use Rattle.eif_body_rules.specs.Settings.{meaning, is_local, is_testable}
use Rattle.eif_body_rules.specs.Targets.{target_type, target_rule, assignment_faults}
use Rattle.eif_body_rules.specs.TestRules.{test_faults, bound_local}
use Rattle.eif_body_rules_laws.proofs.plain_fact_examples.Goals as goal

pub returns-clause-attached : goal.returns-clause-attached
unfolding kernel line_of wrong_arguments call_of name_rule result_rule call_rule precursor_rule tested_name
    compared_name creation_faults creation_rule unfit_type no_boolean no_integer create_instruction_rule without learned
    unset_read unset_name unary_rule binary_rule meaning is_local is_testable target_type target_rule
    assignment_faults test_faults bound_local
returns-clause-attached c = record {
  not_void_true = refl;
  not_void_false = refl;
  is_void_true = refl;
  is_void_false = refl;
  not_testable_true = refl;
  not_testable_false = refl;
  tested_true = refl;
  tested_false = refl;
  negation_true = refl;
  negation_false = refl;
  conjunction_true = refl;
  conjunction_false = refl;
  conjunction_short_true = refl;
  conjunction_short_false = refl;
  disjunction_true = refl;
  disjunction_false = refl;
  disjunction_short_true = refl;
  disjunction_short_false = refl;
  implication_true = refl;
  implication_false = refl;
  exclusion_true = refl;
  exclusion_false = refl;
  read_true = refl;
  read_false = refl;
}

pub returns-clause-opened : goal.returns-clause-opened
unfolding kernel line_of wrong_arguments call_of name_rule result_rule call_rule precursor_rule tested_name
    compared_name creation_faults creation_rule unfit_type no_boolean no_integer create_instruction_rule without learned
    unset_read unset_name unary_rule binary_rule meaning is_local is_testable target_type target_rule
    assignment_faults test_faults bound_local
returns-clause-opened c = record {
  opened = refl;
  not_where_false = refl;
  negated = refl;
  earliest = refl;
  no_local = refl;
}
