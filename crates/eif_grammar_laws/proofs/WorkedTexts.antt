-- The class texts among the examples are read, by computing their tokens and the reading of these.
use Rattle.std.proofs.Common.{◌≡◌, ℕ, List, [], Ok, refl}
use Rattle.eif_tree.specs.Tree.{ClassT}
use Rattle.eif_grammar.specs.Tokens.{tokens_of}
use Rattle.eif_grammar.specs.Goals.{class_text, class_goal}
use Rattle.eif_grammar.specs.Outcomes.{got, reached}
use Rattle.eif_grammar_laws.specs.Examples.{IsTextOf, WorkedTexts, empty_app_text, empty_app, a_class_text, a_class, calling_app_text, calling_app, person_text, person, link_text, link}
use Rattle.eif_grammar_laws.proofs.ByComputing.{tokens_in, got_within}
use Rattle.eif_grammar_laws.proofs.ClassLaws.{class_part}

is_text : (text : List ℕ) (c : ClassT) → tokens_of 0 text ≡ Ok (tokens_in text) → reached 30 (class_goal class_text) (tokens_in text) ≡ got c [] → IsTextOf text c
is_text text c cut read = (tokens_in text, cut, class_part (tokens_in text) [] c (got_within 30 (class_goal class_text) (tokens_in text) [] c read))

pub all_worked : WorkedTexts
unfolding reached
all_worked = record {
  of_empty_app = is_text empty_app_text empty_app refl refl;
  of_a_class = is_text a_class_text a_class refl refl;
  of_calling_app = is_text calling_app_text calling_app refl refl;
  of_person = is_text person_text person refl refl;
  of_link = is_text link_text link refl refl;
}
