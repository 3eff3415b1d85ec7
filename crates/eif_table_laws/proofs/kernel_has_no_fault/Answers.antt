use Rattle.eif_table_laws.proofs.KernelFeatures.{kernel_clean}
use Rattle.eif_table_laws.proofs.kernel_has_no_fault.Goals as goal

pub returns : goal.returns
returns c = λ given root sound d few. kernel_clean given root sound d few
