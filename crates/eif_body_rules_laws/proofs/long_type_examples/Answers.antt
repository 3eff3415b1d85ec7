use Rattle.std.proofs.Common.{refl}
use Rattle.eif_system.specs.Kernel.{kernel}
use Rattle.eif_system.specs.Lineage.{line_of}
use Rattle.eif_body_rules.specs.CallRules.{wrong_arguments, call_of, name_rule, result_rule, call_rule, precursor_rule}
use Rattle.eif_body_rules.specs.Conditions.{tested_name, compared_name}
use Rattle.eif_body_rules.specs.CreationRules.{creation_faults, creation_rule, unfit_type}
use Rattle.eif_body_rules.specs.InstructionFaults.{no_boolean, no_integer, create_instruction_rule}
use Rattle.eif_body_rules.specs.KnownFacts.{without, learned}
use Rattle.eif_body_rules.specs.LocalFlow.{unset_read, unset_name}
use Rattle.eif_body_rules.specs.OperatorRules.{unary_rule, binary_rule}
use Rattle.eif_body_rules.specs.Settings.{meaning, is_local, is_testable}
use Rattle.eif_body_rules.specs.Targets.{target_type, target_rule, assignment_faults}
use Rattle.eif_body_rules.specs.TestRules.{test_faults, bound_local}
use Rattle.eif_body_rules_laws.proofs.long_type_examples.Goals as goal

pub returns : goal.returns
unfolding kernel line_of wrong_arguments call_of name_rule result_rule call_rule precursor_rule tested_name
    compared_name creation_faults creation_rule unfit_type no_boolean no_integer create_instruction_rule without learned
    unset_read unset_name unary_rule binary_rule meaning is_local is_testable target_type target_rule
    assignment_faults test_faults bound_local
returns c = record {
  long_result = refl;
  longest_result = refl;
  long_argument = refl;
  longest_argument = refl;
  use_first = refl;
  long_creation = refl;
  longest_creation = refl;
}
