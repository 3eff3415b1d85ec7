use Rattle.eif_meaning.proofs.RunsGrow.{run_grows}
use Rattle.eif_meaning.proofs.runs_grow.Goals as goal

pub returns : goal.returns
returns c = run_grows
