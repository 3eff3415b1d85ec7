use Rattle.eif_run_creation.proofs.RootClass as root
use Rattle.eif_run_creation.proofs.root_is_lawful.Goals as goal

pub returns : goal.returns
returns c = root.root_is_lawful
