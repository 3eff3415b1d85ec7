-- The parts of a class text that are found have that meaning, and those that have it are found.
use Rattle.std.proofs.Common.{◌≡◌, List, ◌∷◌}
use Rattle.eif_grammar.specs.Tokens.{Token}
use Rattle.eif_grammar.specs.Goals.{ClassGoal, ClassFound, Goal, Found, type_goal, expression_goal, instruction_goal, class_goal, token}
use Rattle.eif_grammar.specs.Outcomes.{rule, got, Calls}
use Rattle.eif_grammar_laws.proofs.Readers.{Meanings, Means, sound}
use Rattle.eif_grammar_laws.proofs.Meanings.{TypeMeans, ExpressionMeans, InstructionMeans}
use Rattle.eif_grammar_laws.proofs.ClassMeanings.{ClassMeans}
use Rattle.eif_grammar_laws.proofs.Meant.{Meant, expressions_meant, token_form}
use Rattle.eif_grammar_laws.proofs.TypeMeaning.{type_forms}
use Rattle.eif_grammar_laws.proofs.ExpressionMeaning.{expression_forms}
use Rattle.eif_grammar_laws.proofs.InstructionMeaning.{instruction_forms}
use Rattle.eif_grammar_laws.proofs.ClassLeads.{Leads}
use Rattle.eif_grammar_laws.proofs.ClassMeaning.{class_forms}
use Rattle.eif_grammar_laws.proofs.ClassSteps.{PartsFound}
use Rattle.eif_grammar_laws.proofs.TypeComplete.{type_found, class_type_found}
use Rattle.eif_grammar_laws.proofs.InstructionComplete.{semis_found, assertions_found, invariants_found, compound_found}

-- what all goals mean
abbrev meanings : Meanings
meanings (type_goal g) a ts rest = TypeMeans g a ts rest
meanings (expression_goal g) a ts rest = ExpressionMeans g a ts rest
meanings (instruction_goal g) a ts rest = InstructionMeans g a ts rest
meanings (class_goal g) a ts rest = ClassMeans g a ts rest
meanings (token x) n ts rest = (n.terminal ≡ x) × (ts ≡ n ∷ rest)

meant : Meant meanings
meant = record { types = λ m. m; expressions = λ m. m; instructions = λ m. m; tokens = λ m. m }

leads : Leads meanings
leads = record { types = λ m. m; instructions = λ m. m; classes = λ m. m; tokens = λ m. m }

forms : (g : Goal) (a : Found g) (ts rest : List Token) → Means meanings (rule g) a ts rest → meanings g a ts rest
forms (type_goal g) a ts rest m = type_forms meanings (expressions_meant meant) g a ts rest m
forms (expression_goal g) a ts rest m = expression_forms meanings (expressions_meant meant) g a ts rest m
forms (instruction_goal g) a ts rest m = instruction_forms meanings meant g a ts rest m
forms (class_goal g) a ts rest m = class_forms meanings leads g a ts rest m
forms (token x) n ts rest m = token_form meanings x n ts rest m

pub class_means : (g : ClassGoal) (ts : List Token) (a : ClassFound g) (rest : List Token) → Calls (class_goal g) ts (got a rest) → ClassMeans g a ts rest
class_means g ts a rest c = sound meanings forms (class_goal g) ts a rest c

-- what classes are made of is found
pub parts_found : PartsFound
parts_found = record {
  type_found = type_found;
  class_type_found = class_type_found;
  assertions_found = assertions_found;
  invariants_found = invariants_found;
  compound_found = compound_found;
  semis_found = semis_found;
}
