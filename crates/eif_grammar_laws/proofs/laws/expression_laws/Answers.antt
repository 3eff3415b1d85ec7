use Rattle.eif_grammar.specs.Parts.{ExpressionPart}
use Rattle.eif_grammar_laws.proofs.ExpressionLaws.{expression_reads, only_expression}
use Rattle.eif_grammar_laws.proofs.FrontLaws.{longest_expression}
use Rattle.eif_grammar_laws.proofs.OneFront.{one_front}
use Rattle.eif_grammar_laws.proofs.laws.expression_laws.Goals as goal

pub returns : goal.returns
returns c = λ room some. record {
  each = expression_reads room;
  only = λ tokens left e read. only_expression room tokens left e some read;
  front = λ tokens left read. longest_expression room tokens left some read;
  one_front = one_front (ExpressionPart room);
}
