use Rattle.eif_grammar.specs.Parts.{TypePart}
use Rattle.eif_grammar_laws.proofs.TypeLaws.{type_reads, only_type}
use Rattle.eif_grammar_laws.proofs.FrontLaws.{longest_type}
use Rattle.eif_grammar_laws.proofs.OneFront.{one_front}
use Rattle.eif_grammar_laws.proofs.laws.type_laws.Goals as goal

pub returns : goal.returns
returns c = λ room some. record {
  each = type_reads room;
  only = λ tokens left ty read. only_type room tokens left ty some read;
  front = λ tokens left read. longest_type room tokens left some read;
  one_front = one_front (TypePart room);
}
