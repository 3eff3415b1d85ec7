-- The parts of a class text, and what it means that tokens begin one.
use Rattle.std.specs.Prelude.{◌≡◌, ℕ, ◌≤◌, ◌⊎◌, List, [], ◌∷◌, ◌++◌}
use Rattle.eif_base.specs.declared.Place.{Place}
use Rattle.eif_base.specs.declared.limits.TheConstants.{MOST_HEIGHT}
use Rattle.eif_tree.specs.Tree.{TypeT, Ex, Inss, ClassT}
use Rattle.eif_tree.specs.Height.{type_height, height, compound_height, class_height}
use Rattle.eif_grammar.specs.Tokens.{Token, TokenList}
use Rattle.eif_grammar.specs.SpelledTypes.{spells_type}
use Rattle.eif_grammar.specs.SpelledExpressions.{spells_expression}
use Rattle.eif_grammar.specs.SpelledInstructions.{spells_compound}
use Rattle.eif_grammar.specs.SpelledClasses.{spells_class}

-- the highest that a type, an expression or an instruction may be
abbrev pub most_height : ℕ
most_height = MOST_HEIGHT

-- The tokens at the front are a part by the longest reading, no higher than the room, and rest follows.
abbrev pub TypePart : ℕ → List Token → List Token → TypeT → Type 0
TypePart room tokens rest ty = spells_type ty tokens rest × (type_height ty ≤ room)

abbrev pub ExpressionPart : ℕ → List Token → List Token → Ex → Type 0
ExpressionPart room tokens rest e = spells_expression e tokens rest × (height e ≤ room)

abbrev pub CompoundPart : ℕ → List Token → List Token → Inss → Type 0
CompoundPart room tokens rest is = spells_compound is tokens rest × (compound_height is ≤ room)

-- all the tokens are a class text
abbrev pub Text : List Token → ClassT → Type 0
Text tokens c = spells_class c tokens [] × (class_height c ≤ most_height)

-- the same as a part, behind which nothing follows
abbrev pub TextPart : List Token → List Token → ClassT → Type 0
TextPart tokens rest c = (rest ≡ []) × Text tokens c

-- all the tokens are this class text and no other
pub record OnlyText (tokens : List Token) (c : ClassT) : Type 0 where
  pub is_text : Text tokens c
  pub only : (other : ClassT) → Text tokens other → other ≡ c

-- The other tokens are the given ones, or agree with them up to and with the first that is left.
abbrev pub Agree : List Token → List Token → List Token → Type 0
Agree tokens left other =
    (other ≡ tokens) ⊎ ((front : List Token) × (next : Token) × (more : List Token) × (more' : List Token)
    × (tokens ≡ front ++ next ∷ more) × (left ≡ next ∷ more) × (other ≡ front ++ next ∷ more'))

-- for one kind of part, as a relation of tokens, those that follow and a tree
module _ {X : Type 0} (part : List Token → List Token → X → Type 0) where
  -- a part, and the only one of all tokens that agree with these up to and with the next
  pub record OnlyPart (tokens left : List Token) (x : X) : Type 0 where
    pub is_part : part tokens left x
    pub only : (other rest : List Token) (y : X) → Agree tokens left other → part other rest y → y ≡ x

  -- no tokens that agree with these up to and with the first that is left are a part
  abbrev pub NoPart : List Token → List Token → Type 0
  NoPart tokens left = (other rest : List Token) (x : X) → Agree tokens left other → part other rest x → ⊥

  -- the tokens begin some part
  abbrev pub IsFront : List Token → Type 0
  IsFront tokens = (more : List Token) × (x : X) × part (tokens ++ more) [] x

  -- The first token that is left is the first past the longest viable front: those before it begin a part, and with it none does.
  pub record LongestFront (tokens left : List Token) : Type 0 where
    pub front : List Token
    pub begins : tokens ≡ front ++ left
    pub viable : IsFront front
    pub longest : NoPart tokens left

-- ---- texts that are no class text

-- where the first token that is left begins, or the text ends
abbrev pub left_place : Place → List Token → Place
left_place end [] = end
left_place end (w ∷ ws) = w.place

-- The syntax fault of a text that is no class text: its place is that of the first token past the longest front that
-- begins a class text, or the text's end where the tokens break off.
pub record IsSyntaxFault (list : TokenList) (place : Place) : Type 0 where
  pub left : List Token
  pub past : LongestFront TextPart list.tokens left
  pub is_place : place ≡ left_place list.end left
