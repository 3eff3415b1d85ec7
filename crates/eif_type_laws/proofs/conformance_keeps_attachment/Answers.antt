use Rattle.eif_type_laws.proofs.Attachment.{kept}
use Rattle.eif_type_laws.proofs.conformance_keeps_attachment.Goals as goal

pub returns : goal.returns
returns c = λ u d a b h g. kept u d a b h g
