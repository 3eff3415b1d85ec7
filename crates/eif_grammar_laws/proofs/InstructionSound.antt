-- The instructions that are found have that meaning. Their rules call for no parts of a class.
use Rattle.std.proofs.Common.{◌≡◌, List, ◌∷◌}
use Rattle.eif_grammar.specs.Tokens.{Token}
use Rattle.eif_grammar.specs.Goals.{InstructionGoal, InstructionFound, Goal, Found, type_goal, expression_goal, instruction_goal, class_goal, token}
use Rattle.eif_grammar.specs.Outcomes.{rule, got, Calls}
use Rattle.eif_grammar_laws.proofs.Readers.{Meanings, Means, sound}
use Rattle.eif_grammar_laws.proofs.Meanings.{TypeMeans, ExpressionMeans, InstructionMeans}
use Rattle.eif_grammar_laws.proofs.Meant.{Meant, expressions_meant, token_form}
use Rattle.eif_grammar_laws.proofs.TypeMeaning.{type_forms}
use Rattle.eif_grammar_laws.proofs.ExpressionMeaning.{expression_forms}
use Rattle.eif_grammar_laws.proofs.InstructionMeaning.{instruction_forms}

-- what goals mean, but for classes
abbrev meanings : Meanings
meanings (type_goal g) a ts rest = TypeMeans g a ts rest
meanings (expression_goal g) a ts rest = ExpressionMeans g a ts rest
meanings (instruction_goal g) a ts rest = InstructionMeans g a ts rest
meanings (class_goal g) a ts rest = Unit {0}
meanings (token x) n ts rest = (n.terminal ≡ x) × (ts ≡ n ∷ rest)

meant : Meant meanings
meant = record { types = λ m. m; expressions = λ m. m; instructions = λ m. m; tokens = λ m. m }

forms : (g : Goal) (a : Found g) (ts rest : List Token) → Means meanings (rule g) a ts rest → meanings g a ts rest
forms (type_goal g) a ts rest m = type_forms meanings (expressions_meant meant) g a ts rest m
forms (expression_goal g) a ts rest m = expression_forms meanings (expressions_meant meant) g a ts rest m
forms (instruction_goal g) a ts rest m = instruction_forms meanings meant g a ts rest m
forms (class_goal g) a ts rest m = tt
forms (token x) n ts rest m = token_form meanings x n ts rest m

pub instruction_means : (g : InstructionGoal) (ts : List Token) (a : InstructionFound g) (rest : List Token) → Calls (instruction_goal g) ts (got a rest) → InstructionMeans g a ts rest
instruction_means g ts a rest c = sound meanings forms (instruction_goal g) ts a rest c
