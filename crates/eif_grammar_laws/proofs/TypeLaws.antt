-- What a parser's outcome says of types.
use Rattle.std.proofs.Common.{ℕ, ◌≤◌, List}
use Rattle.eif_tree.specs.Tree.{TypeT}
use Rattle.eif_grammar.specs.Tokens.{Token}
use Rattle.eif_grammar.specs.Goals.{written, type_goal}
use Rattle.eif_grammar.specs.Outcomes.{got, refused, Calls}
use Rattle.eif_grammar.specs.Parts.{TypePart, OnlyPart, NoPart}
use Rattle.eif_grammar_laws.proofs.OneReading.{only_part, no_part}
use Rattle.eif_grammar_laws.proofs.TypeComplete.{type_found}
use Rattle.eif_grammar_laws.proofs.ExpressionSound.{type_means}

pub type_reads : (room : ℕ) (ty : TypeT) (tokens rest : List Token) → TypePart room tokens rest ty → Calls (type_goal (written room)) tokens (got ty rest)
type_reads room ty tokens rest p = type_found ty room tokens rest p.0 p.1

pub only_type : (room : ℕ) (tokens left : List Token) (ty : TypeT) → 1 ≤ room → Calls (type_goal (written room)) tokens (got ty left) → OnlyPart (TypePart room) tokens left ty
only_type room tokens left ty some c = only_part (type_goal (written room)) (TypePart room) (type_reads room) tokens left ty (type_means (written room) tokens ty left c some) c

pub no_type : (room : ℕ) (tokens left : List Token) → Calls (type_goal (written room)) tokens (refused left) → NoPart (TypePart room) tokens left
no_type room tokens left c = no_part (type_goal (written room)) (TypePart room) (type_reads room) tokens left c
