use Rattle.eif_spelled_laws.proofs.SpelledClasses as spelled
use Rattle.eif_spelled_laws.proofs.class_texts_are_spelled.Goals as goal

pub returns : goal.returns
returns c = spelled.texts_are_spelled
