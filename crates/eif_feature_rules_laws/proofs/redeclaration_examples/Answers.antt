use Rattle.std.proofs.Common.{refl}
use Rattle.eif_system.specs.Kernel.{kernel}
use Rattle.eif_system.specs.Lineage.{line_of}
use Rattle.eif_feature_rules_laws.proofs.redeclaration_examples.Goals as goal

pub returns-clause-redeclarations : goal.returns-clause-redeclarations
unfolding kernel line_of
returns-clause-redeclarations c = record {
  other_count = refl;
  other_argument = refl;
  function_for_procedure = refl;
  procedure_for_function = refl;
  other_result = refl;
  function_for_attribute = refl;
  other_attribute = refl;
  first_counts = refl;
  same_arguments = refl;
  stricter_result = refl;
  attribute_for_function = refl;
  same_attribute = refl;
  each_entry = refl;
  deferred_entry = refl;
}

pub returns-clause-joins : goal.returns-clause-joins
unfolding kernel line_of
returns-clause-joins c = record {
  unfit_deferred = refl;
  fit_deferred = refl;
  unfit_undefined = refl;
  unfit_result = refl;
  unequal_join = refl;
  equal_join = refl;
  undefined_join = refl;
}

pub returns-clause-sizes : goal.returns-clause-sizes
unfolding kernel line_of
returns-clause-sizes c = record {
  large = refl;
  large_alone = refl;
  largest = refl;
  large_below = refl;
}
