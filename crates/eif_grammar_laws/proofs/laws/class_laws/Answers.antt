use Rattle.eif_grammar.specs.Parts.{TextPart}
use Rattle.eif_grammar_laws.specs.Laws.{ClassPart}
use Rattle.eif_grammar_laws.proofs.ClassLaws.{class_reads, one_text, only_class}
use Rattle.eif_grammar_laws.proofs.FrontLaws.{longest_class, longest_text, longest_text_behind}
use Rattle.eif_grammar_laws.proofs.OneFront.{one_front}
use Rattle.eif_grammar_laws.proofs.laws.class_laws.Goals as goal

pub returns : goal.returns
returns c = record {
  reads = record { each = class_reads; only = only_class; front = longest_class; one_front = one_front ClassPart };
  one = one_text;
  one_text_front = one_front TextPart;
  front_where_refused = longest_text;
  front_where_left = longest_text_behind;
}
