use Rattle.eif_run_sound.proofs.Runs.{run_ok}
use Rattle.eif_run_sound.proofs.runs_are_sound.Goals as goal

pub returns : goal.returns
returns c = λ u laws class_name procedure root n. run_ok u laws class_name procedure root n
