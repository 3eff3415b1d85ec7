use Rattle.eif_run_laws.proofs.Operands.{literal_given}
use Rattle.eif_run_laws.proofs.literals_give.Goals as goal

pub returns : goal.returns
returns c = λ system laws x s heap. literal_given system laws x s heap
