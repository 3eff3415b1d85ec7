-- Readings of forms that break off.
use Rattle.std.proofs.Common.{◌≡◌, ℕ, List, drop, codes, Ok, refl}
use Rattle.eif_grammar.specs.Tokens.{Token, tokens_of}
use Rattle.eif_grammar.specs.Goals.{Goal, Found, expression, written, type_goal, expression_goal, compound, instruction_goal}
use Rattle.eif_grammar.specs.Outcomes.{refused, reached, Calls}
use Rattle.eif_grammar.specs.Parts.{most_height, TypePart, ExpressionPart, CompoundPart, NoPart}
use Rattle.eif_grammar_laws.specs.BrokenForms.{BreaksOff, TypeBreaksOff, ExpressionBreaksOff, CompoundBreaksOff, BrokenForms}
use Rattle.eif_grammar_laws.proofs.ByComputing.{tokens_in, refused_within}
use Rattle.eif_grammar_laws.proofs.TypeLaws.{no_type}
use Rattle.eif_grammar_laws.proofs.ExpressionLaws.{no_expression}
use Rattle.eif_grammar_laws.proofs.InstructionLaws.{no_compound}
use Rattle.eif_grammar_laws.proofs.HighOperands.{high_operand, long_sum}

breaks : (g : Goal) (part : List Token → List Token → Found g → Type 0) → ((tokens left : List Token) → Calls g tokens (refused left) → NoPart part tokens left)
    → (depth : ℕ) (text : List ℕ) (taken : ℕ) (tokens : List Token) → tokens_of 0 text ≡ Ok tokens → reached depth g tokens ≡ refused (drop taken tokens) → BreaksOff g part text taken
breaks g part none depth text taken tokens cut read =
    let outcome = refused_within depth g tokens (drop taken tokens) read in
    record { tokens = tokens; cut = cut; refuses = outcome; none = none tokens (drop taken tokens) outcome }

type_breaks : (text : List ℕ) (taken : ℕ) → tokens_of 0 text ≡ Ok (tokens_in text) → reached 30 (type_goal (written most_height)) (tokens_in text) ≡ refused (drop taken (tokens_in text))
    → TypeBreaksOff text taken
type_breaks text taken cut read = breaks (type_goal (written most_height)) (TypePart most_height) (no_type most_height) 30 text taken (tokens_in text) cut read

expression_breaks : (text : List ℕ) (taken : ℕ) → tokens_of 0 text ≡ Ok (tokens_in text)
    → reached 30 (expression_goal (expression most_height 1)) (tokens_in text) ≡ refused (drop taken (tokens_in text)) → ExpressionBreaksOff text taken
expression_breaks text taken cut read =
    breaks (expression_goal (expression most_height 1)) (ExpressionPart most_height) (no_expression most_height) 30 text taken (tokens_in text) cut read

compound_breaks : (text : List ℕ) (taken : ℕ) → tokens_of 0 text ≡ Ok (tokens_in text)
    → reached 30 (instruction_goal (compound most_height)) (tokens_in text) ≡ refused (drop taken (tokens_in text)) → CompoundBreaksOff text taken
compound_breaks text taken cut read =
    breaks (instruction_goal (compound most_height)) (CompoundPart most_height) (no_compound most_height) 30 text taken (tokens_in text) cut read

pub all_broken : BrokenForms
unfolding reached
all_broken = record {
  sum = expression_breaks (codes "a + )") 2 refl refl;
  call = expression_breaks (codes "f (") 2 refl refl;
  creation = expression_breaks (codes "create {T}.") 5 refl refl;
  created = compound_breaks (codes "create {T} x.") 6 refl refl;
  assignment = compound_breaks (codes "x :=") 2 refl refl;
  actuals = type_breaks (codes "LINK [G,") 4 refl refl;
  high_operand = high_operand;
  long_sum = long_sum;
}
