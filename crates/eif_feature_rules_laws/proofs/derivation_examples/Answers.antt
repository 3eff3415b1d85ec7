use Rattle.std.proofs.Common.{refl}
use Rattle.eif_system.specs.Kernel.{kernel}
use Rattle.eif_system.specs.Lineage.{line_of}
use Rattle.eif_feature_rules_laws.proofs.derivation_examples.Goals as goal

pub returns-clause-ancestors : goal.returns-clause-ancestors
unfolding kernel line_of
returns-clause-ancestors c = record {
  differing = refl;
  agreeing = refl;
  differing_above = refl;
  marks_differ = refl;
  undefined_above = refl;
  large = refl;
  largest = refl;
  small_and_large = refl;
}

pub returns-clause-actuals : goal.returns-clause-actuals
unfolding kernel line_of
returns-clause-actuals c = record {
  wrong_actual = refl;
  right_actual = refl;
  detachable_actual = refl;
  unconstrained = refl;
  formal_actual = refl;
  constrained_actual = refl;
  in_parent = refl;
  in_constraint = refl;
  nested = refl;
  beside_differing = refl;
}
