use Rattle.eif_run_sound.proofs.Expressions as expressions
use Rattle.eif_run_sound.proofs.expressions_keep.Goals as goal

pub returns : goal.returns
returns c = λ u laws r lawful. expressions.expressions_keep u laws r lawful
