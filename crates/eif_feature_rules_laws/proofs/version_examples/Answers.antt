use Rattle.std.proofs.Common.{refl}
use Rattle.eif_system.specs.Kernel.{kernel}
use Rattle.eif_system.specs.Lineage.{line_of}
use Rattle.eif_feature_rules_laws.proofs.version_examples.Goals as goal

pub returns-clause-selection : goal.returns-clause-selection
unfolding kernel line_of
returns-clause-selection c = record {
  undecided = refl;
  one_selected = refl;
  both_selected = refl;
  least_candidate = refl;
  needless_selection = refl;
  shared_selection = refl;
  repeated_selection = refl;
  beside_any = refl;
}

pub returns-clause-replication : goal.returns-clause-replication
unfolding kernel line_of
returns-clause-replication c = record {
  two_split = refl;
  one_split = refl;
  redeclared_split = refl;
  in_assertion = refl;
  hidden_by_argument = refl;
  as_target = refl;
}
