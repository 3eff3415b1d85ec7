use Rattle.eif_grammar_laws.proofs.WorkedTexts.{all_worked}
use Rattle.eif_grammar_laws.proofs.examples.worked_texts.Goals as goal

pub returns : goal.returns
returns c = all_worked
