use Rattle.std.proofs.Common.{refl}
use Rattle.eif_system.specs.Kernel.{kernel}
use Rattle.eif_system.specs.Lineage.{line_of}
use Rattle.eif_flow_rules_laws.proofs.call_examples.Goals as goal

pub returns-clause-parents : goal.returns-clause-parents
unfolding kernel line_of
returns-clause-parents c = record {
  called = refl;
  own_body = refl;
  parents_body = refl;
  built_in = refl;
  redefined = refl;
  never_called = refl;
  in_the_parent = refl;
  precursor_sets = refl;
  no_precursor = refl;
  of_the_first = refl;
  of_the_second = refl;
  redeclared_as_field = refl;
}

pub returns-clause-circles : goal.returns-clause-circles
unfolding kernel line_of
returns-clause-circles c = record {
  needs_all = refl;
  helper = refl;
  creator = refl;
  creator_needs = refl;
  two_bodies = refl;
  second_body = refl;
  caller = refl;
  through_precursor = refl;
  called_when_set = refl;
}

pub returns-clause-operands : goal.returns-clause-operands
unfolding kernel line_of
returns-clause-operands c = record {
  strict = refl;
  may_not_run = refl;
  set_inside = refl;
  needs_too = refl;
  or_else = refl;
  implied = refl;
  constant_is_no_field = refl;
}
