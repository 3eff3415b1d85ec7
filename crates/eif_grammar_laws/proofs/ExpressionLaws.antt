-- What a parser's outcome says of expressions.
use Rattle.std.proofs.Common.{ℕ, ◌≤◌, List, arith}
use Rattle.eif_tree.specs.Tree.{Ex}
use Rattle.eif_grammar.specs.Tokens.{Token}
use Rattle.eif_grammar.specs.Goals.{expression, expression_goal}
use Rattle.eif_grammar.specs.Outcomes.{got, refused, Calls}
use Rattle.eif_grammar.specs.Parts.{ExpressionPart, OnlyPart, NoPart}
use Rattle.eif_grammar_laws.proofs.OneReading.{only_part, no_part}
use Rattle.eif_grammar_laws.proofs.ExpressionComplete.{expression_found}
use Rattle.eif_grammar_laws.proofs.ExpressionSound.{expression_means}

pub expression_reads : (room : ℕ) (e : Ex) (tokens rest : List Token) → ExpressionPart room tokens rest e → Calls (expression_goal (expression room 1)) tokens (got e rest)
expression_reads room e tokens rest p = expression_found e room tokens rest p.0 p.1

pub only_expression : (room : ℕ) (tokens left : List Token) (e : Ex) → 1 ≤ room → Calls (expression_goal (expression room 1)) tokens (got e left) → OnlyPart (ExpressionPart room) tokens left e
only_expression room tokens left e some c =
    only_part (expression_goal (expression room 1)) (ExpressionPart room) (expression_reads room) tokens left e
    (expression_means (expression room 1) tokens e left c some (omega arith) (omega arith)) c

pub no_expression : (room : ℕ) (tokens left : List Token) → Calls (expression_goal (expression room 1)) tokens (refused left) → NoPart (ExpressionPart room) tokens left
no_expression room tokens left c = no_part (expression_goal (expression room 1)) (ExpressionPart room) (expression_reads room) tokens left c
