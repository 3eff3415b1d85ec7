use Rattle.eif_run_kernel.proofs.LawfulKernel.{type_laws}
use Rattle.eif_run_kernel.proofs.types_hold.Goals as goal

pub returns : goal.returns
returns c = λ given root is. type_laws given root is
