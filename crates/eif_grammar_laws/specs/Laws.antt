-- What the readings of the grammar say of its trees, for all tokens.
use Rattle.std.specs.Prelude.{◌≡◌, ◌≢◌, ◌≤◌, ℕ, List, []}
use Rattle.eif_tree.specs.Tree.{ClassT}
use Rattle.eif_tree.specs.Height.{class_height}
use Rattle.eif_grammar.specs.Tokens.{Token}
use Rattle.eif_grammar.specs.SpelledClasses.{spells_class}
use Rattle.eif_grammar.specs.Goals.{Goal, Found, written, type_goal, expression, expression_goal, compound, instruction_goal, class_text, class_goal}
use Rattle.eif_grammar.specs.Outcomes.{got, refused, Calls}
use Rattle.eif_grammar.specs.Parts.{most_height, TypePart, ExpressionPart, CompoundPart, Text, TextPart, OnlyPart, LongestFront}

-- The tokens at the front are a class text by the longest reading, no part of it higher than it may be, and rest follows.
abbrev pub ClassPart : List Token → List Token → ClassT → Type 0
ClassPart tokens rest c = spells_class c tokens rest × (class_height c ≤ most_height)

-- the first token past the longest front that begins a part is one
abbrev pub OneFront : {X : Type 0} → (List Token → List Token → X → Type 0) → Type 0
OneFront part = (tokens left other : List Token) → LongestFront part tokens left → LongestFront part tokens other → left ≡ other

module _ (g : Goal) (part : List Token → List Token → Found g → Type 0) where
  -- what is found is a part, and the only one of all tokens that agree with these up to and with the next
  abbrev pub FindsOnly : Type 0
  FindsOnly = (tokens left : List Token) (x : Found g) → Calls g tokens (got x left) → OnlyPart part tokens left x

  -- where the reading is refused, what is left begins with the first token past the longest front that begins a part
  abbrev pub RefusesPastFront : Type 0
  RefusesPastFront = (tokens left : List Token) → Calls g tokens (refused left) → LongestFront part tokens left

  -- each part is found
  abbrev pub FindsEach : Type 0
  FindsEach = (x : Found g) (tokens rest : List Token) → part tokens rest x → Calls g tokens (got x rest)

-- the four together
pub record Reads (g : Goal) (part : List Token → List Token → Found g → Type 0) : Type 0 where
  pub each : FindsEach g part
  pub only : FindsOnly g part
  pub front : RefusesPastFront g part
  pub one_front : OneFront part

abbrev pub TypeLaws : Type 0
TypeLaws = (room : ℕ) → 1 ≤ room → Reads (type_goal (written room)) (TypePart room)

abbrev pub ExpressionLaws : Type 0
ExpressionLaws = (room : ℕ) → 1 ≤ room → Reads (expression_goal (expression room 1)) (ExpressionPart room)

abbrev pub CompoundLaws : Type 0
CompoundLaws = (room : ℕ) → Reads (instruction_goal (compound room)) (CompoundPart room)

-- of whole class texts
pub record ClassLaws : Type 0 where
  pub reads : Reads (class_goal class_text) ClassPart
  -- tokens are one class text at most
  pub one : (tokens : List Token) (c d : ClassT) → Text tokens c → Text tokens d → c ≡ d
  -- and the first token past the longest front that begins one is one
  pub one_text_front : OneFront TextPart
  -- where the reading is refused, and where it leaves tokens, what is left begins with the first token past the
  -- longest front that begins a class text
  pub front_where_refused : (tokens left : List Token) → Calls (class_goal class_text) tokens (refused left) → LongestFront TextPart tokens left
  pub front_where_left : (tokens left : List Token) (c : ClassT) → Calls (class_goal class_text) tokens (got c left) → left ≢ [] → LongestFront TextPart tokens left
