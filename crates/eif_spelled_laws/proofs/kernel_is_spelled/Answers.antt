use Rattle.eif_spelled_laws.proofs.SpelledKernel as kernel
use Rattle.eif_spelled_laws.proofs.kernel_is_spelled.Goals as goal

pub returns : goal.returns
returns c = kernel.kernel_spelled
