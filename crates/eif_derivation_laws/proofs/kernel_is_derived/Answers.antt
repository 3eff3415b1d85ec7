use Rattle.eif_derivation_laws.proofs.Given.{kernel_derived}
use Rattle.eif_derivation_laws.proofs.kernel_is_derived.Goals as goal

pub returns : goal.returns
returns c = λ given root sound d h. kernel_derived given root sound d h
