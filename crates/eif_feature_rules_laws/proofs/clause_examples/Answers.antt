use Rattle.std.proofs.Common.{refl}
use Rattle.eif_system.specs.Kernel.{kernel}
use Rattle.eif_system.specs.Lineage.{line_of}
use Rattle.eif_feature_rules_laws.proofs.clause_examples.Goals as goal

pub returns-clause-renames : goal.returns-clause-renames
unfolding kernel line_of
returns-clause-renames c = record {
  unknown_rename = refl;
  repeated_rename = refl;
  two_renames = refl;
  unknown_twice = refl;
}

pub returns-clause-exports : goal.returns-clause-exports
unfolding kernel line_of
returns-clause-exports c = record {
  unknown_export = refl;
  renamed_export = refl;
  repeated_export = refl;
  two_exports = refl;
  repeated_all = refl;
  one_all = refl;
  unknown_exports = refl;
}

pub returns-clause-undefines : goal.returns-clause-undefines
unfolding kernel line_of
returns-clause-undefines c = record {
  unknown_undefine = refl;
  repeated_undefine = refl;
  attribute_undefine = refl;
  deferred_undefine = refl;
  two_undefines = refl;
  constant_undefine = refl;
  one_entry = refl;
  attribute_twice = refl;
  attribute_and_deferred = refl;
  routine_and_deferred = refl;
}

pub returns-clause-lists : goal.returns-clause-lists
unfolding kernel line_of
returns-clause-lists c = record {
  unknown_redefine = refl;
  repeated_redefine = refl;
  one_redefine = refl;
  unknown_select = refl;
  repeated_select = refl;
  one_select = refl;
  unknown_redefines = refl;
  unknown_selects = refl;
}
