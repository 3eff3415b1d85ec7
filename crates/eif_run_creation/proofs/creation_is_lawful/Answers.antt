use Rattle.eif_run_creation.proofs.Creation as creation
use Rattle.eif_run_creation.proofs.creation_is_lawful.Goals as goal

pub returns : goal.returns
returns c = creation.creation_is_lawful
