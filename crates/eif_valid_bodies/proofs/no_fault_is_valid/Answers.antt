use Rattle.eif_valid_bodies.proofs.Instructions.{expression_valid, condition_valid, compound_valid, body_valid}
use Rattle.eif_valid_bodies.proofs.TypedFacts.{after_all_typed}
use Rattle.eif_valid_bodies.proofs.no_fault_is_valid.Goals as goal

pub returns : goal.returns
returns c = record {
  valid =
      record {
        body = body_valid;
        compound = compound_valid;
        expression = expression_valid;
        condition = condition_valid;
      };
  typed = after_all_typed;
}
