use Rattle.eif_grammar_laws.proofs.BrokenForms.{all_broken}
use Rattle.eif_grammar_laws.proofs.examples.broken_forms.Goals as goal

pub returns : goal.returns
returns c = all_broken
