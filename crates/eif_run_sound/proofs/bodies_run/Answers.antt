use Rattle.eif_run_sound.proofs.Levels.{level_ok}
use Rattle.eif_run_sound.proofs.bodies_run.Goals as goal

pub returns : goal.returns
returns c = λ u laws turns n. level_ok u laws turns n
