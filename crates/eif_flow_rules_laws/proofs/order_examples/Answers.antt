use Rattle.std.proofs.Common.{refl}
use Rattle.eif_system.specs.Kernel.{kernel}
use Rattle.eif_system.specs.Lineage.{line_of}
use Rattle.eif_flow_rules_laws.proofs.order_examples.Goals as goal

pub returns-clause-order : goal.returns-clause-order
unfolding kernel line_of
returns-clause-order c = record {
  source_first = refl;
  arguments_first = refl;
  target_first = refl;
  left_first = refl;
  right_behind = refl;
  conditions_in_turn = refl;
}

pub returns-clause-assertions : goal.returns-clause-assertions
unfolding kernel line_of
returns-clause-assertions c = record {
  in_a_check = refl;
  of_a_loop = refl;
}
