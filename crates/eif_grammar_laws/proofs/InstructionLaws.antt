-- What a parser's outcome says of instructions.
use Rattle.std.proofs.Common.{ℕ, List}
use Rattle.eif_tree.specs.Tree.{Inss}
use Rattle.eif_grammar.specs.Tokens.{Token}
use Rattle.eif_grammar.specs.Goals.{compound, instruction_goal}
use Rattle.eif_grammar.specs.Outcomes.{got, refused, Calls}
use Rattle.eif_grammar.specs.Parts.{CompoundPart, OnlyPart, NoPart}
use Rattle.eif_grammar_laws.proofs.OneReading.{only_part, no_part}
use Rattle.eif_grammar_laws.proofs.InstructionComplete.{compound_found}
use Rattle.eif_grammar_laws.proofs.InstructionSound.{instruction_means}

pub compound_reads : (room : ℕ) (is : Inss) (tokens rest : List Token) → CompoundPart room tokens rest is → Calls (instruction_goal (compound room)) tokens (got is rest)
compound_reads room is tokens rest p = compound_found is room tokens rest p.0 p.1

pub only_compound : (room : ℕ) (tokens left : List Token) (is : Inss) → Calls (instruction_goal (compound room)) tokens (got is left) → OnlyPart (CompoundPart room) tokens left is
only_compound room tokens left is c =
    only_part (instruction_goal (compound room)) (CompoundPart room) (compound_reads room) tokens left is (instruction_means (compound room) tokens is left c) c

pub no_compound : (room : ℕ) (tokens left : List Token) → Calls (instruction_goal (compound room)) tokens (refused left) → NoPart (CompoundPart room) tokens left
no_compound room tokens left c = no_part (instruction_goal (compound room)) (CompoundPart room) (compound_reads room) tokens left c
