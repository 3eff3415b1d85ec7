use Rattle.eif_valid_bodies.proofs.TypedExpressions.{typed_expression, typed_arguments}
use Rattle.eif_valid_bodies.proofs.no_fault_is_typed.Goals as goal

pub returns : goal.returns
returns c = record { expression = typed_expression; arguments = typed_arguments }
