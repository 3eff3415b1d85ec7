-- The types and expressions that are found have that meaning. Their rules call for nothing else.
use Rattle.std.proofs.Common.{◌≡◌, List, ◌∷◌}
use Rattle.eif_grammar.specs.Tokens.{Token}
use Rattle.eif_grammar.specs.Goals.{TypeGoal, TypeFound, ExpressionGoal, ExpressionFound, Goal, Found, type_goal, expression_goal, instruction_goal, class_goal, token}
use Rattle.eif_grammar.specs.Outcomes.{rule, got, Calls}
use Rattle.eif_grammar_laws.proofs.Readers.{Meanings, Means, sound}
use Rattle.eif_grammar_laws.proofs.Meanings.{TypeMeans, ExpressionMeans}
use Rattle.eif_grammar_laws.proofs.Meant.{ExpressionsMeant, token_form}
use Rattle.eif_grammar_laws.proofs.TypeMeaning.{type_forms}
use Rattle.eif_grammar_laws.proofs.ExpressionMeaning.{expression_forms}

-- what goals mean, but for instructions and classes
abbrev meanings : Meanings
meanings (type_goal g) a ts rest = TypeMeans g a ts rest
meanings (expression_goal g) a ts rest = ExpressionMeans g a ts rest
meanings (instruction_goal g) a ts rest = Unit {0}
meanings (class_goal g) a ts rest = Unit {0}
meanings (token x) n ts rest = (n.terminal ≡ x) × (ts ≡ n ∷ rest)

meant : ExpressionsMeant meanings
meant = record { types = λ m. m; expressions = λ m. m; tokens = λ m. m }

forms : (g : Goal) (a : Found g) (ts rest : List Token) → Means meanings (rule g) a ts rest → meanings g a ts rest
forms (type_goal g) a ts rest m = type_forms meanings meant g a ts rest m
forms (expression_goal g) a ts rest m = expression_forms meanings meant g a ts rest m
forms (instruction_goal g) a ts rest m = tt
forms (class_goal g) a ts rest m = tt
forms (token x) n ts rest m = token_form meanings x n ts rest m

pub type_means : (g : TypeGoal) (ts : List Token) (a : TypeFound g) (rest : List Token) → Calls (type_goal g) ts (got a rest) → TypeMeans g a ts rest
type_means g ts a rest c = sound meanings forms (type_goal g) ts a rest c

pub expression_means : (g : ExpressionGoal) (ts : List Token) (a : ExpressionFound g) (rest : List Token) → Calls (expression_goal g) ts (got a rest) → ExpressionMeans g a ts rest
expression_means g ts a rest c = sound meanings forms (expression_goal g) ts a rest c
