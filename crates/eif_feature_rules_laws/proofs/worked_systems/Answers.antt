use Rattle.std.proofs.Common.{refl}
use Rattle.eif_system.specs.Kernel.{kernel}
use Rattle.eif_system.specs.Lineage.{line_of}
use Rattle.eif_feature_rules_laws.proofs.worked_systems.Goals as goal

pub returns-clause-versions : goal.returns-clause-versions
unfolding kernel line_of
returns-clause-versions c = record {
  renamed_creator = refl;
  undecided = refl;
  selected = refl;
  needless = refl;
  replicated_field = refl;
}

pub returns-clause-systems : goal.returns-clause-systems
unfolding kernel line_of
returns-clause-systems c = record {
  redeclared = refl;
  fitting = refl;
  deferred_feature = refl;
  wrong_actual = refl;
  unknown_rename = refl;
  without_h = refl;
  replicated_body = refl;
  one_name = refl;
}
