use Rattle.eif_run_kernel.proofs.LawfulKernel.{kernel_laws}
use Rattle.eif_run_kernel.proofs.kernel_is_lawful.Goals as goal

pub returns : goal.returns
returns c = λ given root is. kernel_laws given root is
