use Rattle.eif_sound.proofs.Soundness as soundness
use Rattle.eif_sound.proofs.valid_systems_are_lawful.Goals as goal

pub returns : goal.returns
returns c = λ given root spelled valid. soundness.lawful given root spelled valid
