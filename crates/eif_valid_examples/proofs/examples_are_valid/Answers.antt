use Rattle.std.proofs.Common.{refl, rules}
use Rattle.std.specs.Fmt.{digits}
use Rattle.eif_system.specs.Kernel.{kernel}
use Rattle.eif_system.specs.Lineage.{line_of}
use Rattle.eif_body_rules.specs.CallRules.{wrong_arguments, call_of, name_rule, result_rule, call_rule, precursor_rule}
use Rattle.eif_body_rules.specs.Conditions.{tested_name, compared_name}
use Rattle.eif_body_rules.specs.CreationRules as creation
use Rattle.eif_body_rules.specs.InstructionFaults.{no_boolean, no_integer, create_instruction_rule}
use Rattle.eif_body_rules.specs.KnownFacts.{without, learned}
use Rattle.eif_body_rules.specs.LocalFlow.{unset_read, unset_name}
use Rattle.eif_body_rules.specs.OperatorRules.{unary_rule, binary_rule}
use Rattle.eif_body_rules.specs.Settings.{meaning, is_local, is_testable}
use Rattle.eif_body_rules.specs.Targets.{target_type, target_rule, assignment_faults}
use Rattle.eif_body_rules.specs.TestRules.{test_faults, bound_local}
use Rattle.eif_valid_examples.specs.ValidExamples.{app_make, list_system, heir_system, tested_system}
use Rattle.eif_valid_examples.proofs.Computed.{valid_from}
use Rattle.eif_valid_examples.proofs.Spelled.{spelled_from}
use Rattle.eif_valid_examples.proofs.examples_are_valid.Goals as goal

pub returns : goal.returns
unfolding kernel line_of digits wrong_arguments call_of name_rule result_rule call_rule precursor_rule tested_name
    compared_name creation.creation_faults creation.creation_rule creation.unfit_type no_boolean no_integer
    create_instruction_rule without learned unset_read unset_name unary_rule binary_rule meaning is_local is_testable
    target_type target_rule assignment_faults test_faults bound_local
returns c = record {
  list = record {
    spelled = spelled_from list_system (search rules);
    valid = valid_from list_system app_make (search rules);
    run = refl;
  };
  heir = record {
    spelled = spelled_from heir_system (search rules);
    valid = valid_from heir_system app_make (search rules);
    run = refl;
  };
  tested = record {
    spelled = spelled_from tested_system (search rules);
    valid = valid_from tested_system app_make (search rules);
    run = refl;
  };
}
