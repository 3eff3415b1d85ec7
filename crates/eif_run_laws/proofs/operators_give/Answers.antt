use Rattle.eif_run_laws.proofs.Operands.{two_ok, one_ok}
use Rattle.eif_run_laws.proofs.operators_give.Goals as goal

pub returns : goal.returns
returns c = record { two = two_ok; one = one_ok }
