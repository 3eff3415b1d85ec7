use Rattle.std.proofs.Common.{refl}
use Rattle.eif_system.specs.Kernel.{kernel}
use Rattle.eif_system.specs.Lineage.{line_of}
use Rattle.eif_flow_rules_laws.proofs.name_examples.Goals as goal

pub returns-clause-heirs : goal.returns-clause-heirs
unfolding kernel line_of
returns-clause-heirs c = record {
  test_local = refl;
  not_judged = refl;
  local = refl;
}

pub returns-clause-hidden : goal.returns-clause-hidden
unfolding kernel line_of
returns-clause-hidden c = record {
  by_a_local = refl;
  by_a_test_local = refl;
  by_and_then = refl;
  by_implies = refl;
  by_or_else = refl;
  not_by_and = refl;
  by_not = refl;
  by_an_exit = refl;
}
