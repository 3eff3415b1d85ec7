use Rattle.eif_sound.proofs.Soundness as soundness
use Rattle.eif_sound.proofs.sound.Goals as goal

pub returns : goal.returns
returns c = λ given root spelled valid n. soundness.never_wrong given root spelled valid n
