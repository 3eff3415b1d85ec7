use Rattle.eif_grammar.specs.Parts.{CompoundPart}
use Rattle.eif_grammar_laws.proofs.InstructionLaws.{compound_reads, only_compound}
use Rattle.eif_grammar_laws.proofs.FrontLaws.{longest_compound}
use Rattle.eif_grammar_laws.proofs.OneFront.{one_front}
use Rattle.eif_grammar_laws.proofs.laws.compound_laws.Goals as goal

pub returns : goal.returns
returns c = λ room. record { each = compound_reads room; only = only_compound room; front = longest_compound room; one_front = one_front (CompoundPart room) }
