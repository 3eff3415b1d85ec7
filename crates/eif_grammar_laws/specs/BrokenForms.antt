-- Forms that break off, and the token at which their reading is refused.
use Rattle.std.specs.Prelude.{◌≡◌, ◌≤◌, ◌+◌, ℕ, zero, suc, List, drop, codes, Ok}
use Rattle.eif_tree.specs.Tree.{Ex}
use Rattle.eif_tree.specs.Height.{height}
use Rattle.eif_grammar.specs.declared.terminal.Terminal.TheVariants as t
use Rattle.eif_grammar.specs.Tokens.{Token, tokens_of}
use Rattle.eif_grammar.specs.Forms.{binds}
use Rattle.eif_grammar.specs.Spelling.{Spelling, head, ◌⨟◌, nothing, the}
use Rattle.eif_grammar.specs.SpelledExpressions.{spells}
use Rattle.eif_grammar.specs.Goals.{Goal, Found, written, type_goal, expression, expression_goal, compound, instruction_goal}
use Rattle.eif_grammar.specs.Outcomes.{refused, Calls}
use Rattle.eif_grammar.specs.Parts.{most_height, TypePart, ExpressionPart, CompoundPart, NoPart}

-- The reading of a text's tokens is refused with the first so many taken, and no tokens that agree with them up to and with the next begin with such a part.
pub record BreaksOff (g : Goal) (part : List Token → List Token → Found g → Type 0) (text : List ℕ) (taken : ℕ) : Type 0 where
  pub tokens : List Token
  pub cut : tokens_of 0 text ≡ Ok tokens
  pub refuses : Calls g tokens (refused (drop taken tokens))
  pub none : NoPart part tokens (drop taken tokens)

abbrev pub TypeBreaksOff : List ℕ → ℕ → Type 0
TypeBreaksOff text taken = BreaksOff (type_goal (written most_height)) (TypePart most_height) text taken

abbrev pub ExpressionBreaksOff : List ℕ → ℕ → Type 0
ExpressionBreaksOff text taken = BreaksOff (expression_goal (expression most_height 1)) (ExpressionPart most_height) text taken

abbrev pub CompoundBreaksOff : List ℕ → ℕ → Type 0
CompoundBreaksOff text taken = BreaksOff (instruction_goal (compound most_height)) (CompoundPart most_height) text taken

-- ---- expressions that are as high as they may be

-- such an expression is no operand: an operator behind it is refused
abbrev pub HighOperand : Type 0
HighOperand = (room : ℕ) (e : Ex) (tokens left : List Token) → spells e 1 tokens left → height e ≡ room → 1 ≤ binds (head left)
    → Calls (expression_goal (expression room 1)) tokens (refused left)

-- so many times a `+` and an integer
abbrev pub pluses : ℕ → Spelling
pluses zero = nothing
pluses (suc n) = the t.Plus ⨟ the t.Integer ⨟ pluses n

-- A sum of as many integers as its room is high is read up to the `+` behind it, which is refused: in a room of 400 the 400th.
abbrev pub LongSum : Type 0
LongSum = (more : ℕ) (tokens left : List Token) → (the t.Integer ⨟ pluses more) tokens left → head left ≡ t.Plus
    → Calls (expression_goal (expression (more + 1) 1)) tokens (refused left)

-- ---- what is claimed

pub record BrokenForms : Type 0 where
  -- at the `)`
  pub sum : ExpressionBreaksOff (codes "a + )") 2
  -- at the end of the text
  pub call : ExpressionBreaksOff (codes "f (") 2
  pub creation : ExpressionBreaksOff (codes "create {T}.") 5
  pub created : CompoundBreaksOff (codes "create {T} x.") 6
  pub assignment : CompoundBreaksOff (codes "x :=") 2
  pub actuals : TypeBreaksOff (codes "LINK [G,") 4
  pub high_operand : HighOperand
  pub long_sum : LongSum
