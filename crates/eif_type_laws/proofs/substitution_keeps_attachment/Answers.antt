use Rattle.eif_type_laws.proofs.Attachment.{put_kept}
use Rattle.eif_type_laws.proofs.substitution_keeps_attachment.Goals as goal

pub returns : goal.returns
returns c = λ u k d xs are meet t p h. put_kept u d k xs are meet t p h
