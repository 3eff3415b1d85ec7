use Rattle.eif_run_sound.proofs.Instructions as instructions
use Rattle.eif_run_sound.proofs.compounds_keep.Goals as goal

pub returns : goal.returns
returns c = λ u laws r lawful. instructions.compounds_keep u laws r lawful
