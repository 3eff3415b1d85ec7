use Rattle.std.proofs.Common.{refl}
use Rattle.eif_system.specs.Kernel.{kernel}
use Rattle.eif_system.specs.Lineage.{line_of}
use Rattle.eif_feature_rules_laws.proofs.creation_examples.Goals as goal

pub returns-clause-creators : goal.returns-clause-creators
unfolding kernel line_of
returns-clause-creators c = record {
  deferred_creation = refl;
  deferred_without_creation = refl;
  unknown_creator = refl;
  creator_with_result = refl;
  repeated_creator = refl;
  each_rule = refl;
  inherited_creator = refl;
  right_creator = refl;
}

pub returns-clause-roots : goal.returns-clause-roots
unfolding kernel line_of
returns-clause-roots c = record {
  no_creator = refl;
  creator_with_arguments = refl;
  right_root = refl;
  default_creator = refl;
  no_default_creator = refl;
  unknown_creator = refl;
  function = refl;
}
