use Rattle.eif_run_laws.proofs.BuiltIns.{built_in_answers}
use Rattle.eif_run_laws.proofs.built_ins_answer.Goals as goal

pub returns : goal.returns
returns c = λ d laws outs b vs s e heap current fit. built_in_answers d laws outs s b vs e heap current fit
