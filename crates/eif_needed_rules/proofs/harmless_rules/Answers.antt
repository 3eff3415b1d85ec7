use Rattle.std.proofs.Common.{refl}
use Rattle.std.specs.Fmt.{digits}
use Rattle.eif_system.specs.Kernel.{kernel}
use Rattle.eif_system.specs.Lineage.{line_of}
use Rattle.eif_body_rules.specs.CallRules.{wrong_arguments, call_of, name_rule, result_rule, call_rule, precursor_rule}
use Rattle.eif_body_rules.specs.Conditions.{tested_name, compared_name}
use Rattle.eif_body_rules.specs.CreationRules as creation
use Rattle.eif_body_rules.specs.InstructionFaults.{no_boolean, no_integer, create_instruction_rule}
use Rattle.eif_body_rules.specs.KnownFacts.{without, learned}
use Rattle.eif_body_rules.specs.LocalFlow.{unset_read, unset_name}
use Rattle.eif_body_rules.specs.OperatorRules.{unary_rule, binary_rule}
use Rattle.eif_body_rules.specs.Settings.{meaning, is_local, is_testable}
use Rattle.eif_body_rules.specs.Targets.{target_type, target_rule, assignment_faults}
use Rattle.eif_body_rules.specs.TestRules.{test_faults, bound_local}
use Rattle.eif_needed_rules.proofs.harmless_rules.Goals as goal

pub returns : goal.returns
unfolding kernel line_of digits wrong_arguments call_of name_rule result_rule call_rule precursor_rule tested_name
    compared_name creation.creation_faults creation.creation_rule creation.unfit_type no_boolean no_integer
    create_instruction_rule without learned unset_read unset_name unary_rule binary_rule meaning is_local is_testable
    target_type target_rule assignment_faults test_faults bound_local
returns c = record {
  local_named_like_field = record { alone = refl; ends = refl };
  repeated_argument = record { alone = refl; ends = refl };
  detachable_test = record { alone = refl; ends = refl };
  entity_as_instruction = record { alone = refl; ends = refl };
  function_as_instruction = record { alone = refl; ends = refl };
  declared_over = record { alone = refl; ends = refl };
  declared_twice = record { alone = refl; ends = refl };
  deferred_creation = record { alone = refl; ends = refl };
  repeated_creator = record { alone = refl; ends = refl };
}
