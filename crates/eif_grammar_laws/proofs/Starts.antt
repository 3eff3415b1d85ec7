-- How operands and primaries begin, and operators of two tokens.
use Rattle.std.proofs.Common.{◌≡◌, ◌≢◌, Some, None, List, ◌∷◌, refl, ap, subst}
use Rattle.eif_tree.specs.declared.Op.{Op}
use Rattle.eif_tree.specs.declared.Op.TheVariants as op
use Rattle.eif_grammar.specs.declared.terminal.Terminal.{Terminal}
use Rattle.eif_grammar.specs.declared.terminal.Terminal.TheVariants as t
use Rattle.eif_grammar.specs.Tokens.{Token}
use Rattle.eif_grammar.specs.Forms.{level, operator, prefix_operator}
use Rattle.eif_grammar.specs.Spelling.{head, the}
use Rattle.eif_grammar.specs.SpelledExpressions.{spells_operator}
use Rattle.eif_grammar.specs.ExpressionRules.{OperandStart, braced, attached, prefixed, chained, operand_start, PrimaryStart, by_name, by_precursor, by_integer, by_character, by_string, by_true, by_false, by_void, by_current, by_result, by_parenthesis, by_create, no_primary, primary_start, second_token}
use Rattle.eif_grammar_laws.proofs.Terminals.{one_here}
use Rattle.eif_grammar_laws.proofs.Meant.{the_at_here}
use Rattle.eif_grammar_laws.proofs.Levels.{binds_operator}

-- ---- operands

-- what the start of an operand says of its token
abbrev pub OperandToken : Terminal → OperandStart → Type 0
OperandToken x braced = x ≡ t.OpenBrace
OperandToken x attached = x ≡ t.Attached
OperandToken x (prefixed o) = prefix_operator x ≡ Some o
OperandToken x chained = Unit {0}

pub operand_token : (x : Terminal) → OperandToken x (operand_start x)
operand_token t.OpenBrace = refl
operand_token t.Attached = refl
operand_token t.Not = refl
operand_token t.Plus = refl
operand_token t.Minus = refl
operand_token _ = tt

-- a sign or `not` begins an operand with a prefix
pub prefix_starts : (x : Terminal) (o : Op) → prefix_operator x ≡ Some o → operand_start x ≡ prefixed o
prefix_starts t.Not o e = let same : op.Not ≡ o = cc in ap prefixed same
prefix_starts t.Plus o e = let same : op.Plus ≡ o = cc in ap prefixed same
prefix_starts t.Minus o e = let same : op.Minus ≡ o = cc in ap prefixed same
prefix_starts _ o e = cc

-- ---- primaries

-- what the start of a primary says of its token
abbrev pub PrimaryToken : Terminal → PrimaryStart → Type 0
PrimaryToken x by_name = x ≡ t.Identifier
PrimaryToken x by_precursor = x ≡ t.Precursor
PrimaryToken x by_integer = x ≡ t.Integer
PrimaryToken x by_character = x ≡ t.Character
PrimaryToken x by_string = x ≡ t.StringText
PrimaryToken x by_true = x ≡ t.True
PrimaryToken x by_false = x ≡ t.False
PrimaryToken x by_void = x ≡ t.Void
PrimaryToken x by_current = x ≡ t.Current
PrimaryToken x by_result = x ≡ t.Result
PrimaryToken x by_parenthesis = x ≡ t.OpenParenthesis
PrimaryToken x by_create = x ≡ t.Create
PrimaryToken x no_primary = Unit {0}

pub primary_token : (x : Terminal) → PrimaryToken x (primary_start x)
primary_token t.Identifier = refl
primary_token t.Precursor = refl
primary_token t.Integer = refl
primary_token t.Character = refl
primary_token t.StringText = refl
primary_token t.True = refl
primary_token t.False = refl
primary_token t.Void = refl
primary_token t.Current = refl
primary_token t.Result = refl
primary_token t.OpenParenthesis = refl
primary_token t.Create = refl
primary_token _ = tt

-- ---- operators of two tokens

-- the first token's operator, the second token, and the operator of both
pub data TwoTokens : Op → Terminal → Op → Type 0 where
  and_then : TwoTokens op.And t.Then op.AndThen
  or_else : TwoTokens op.Or t.Else op.OrElse

pub two_tokens : (o : Op) (x : Terminal) (o' : Op) → second_token o ≡ Some (x, o') → TwoTokens o x o'
two_tokens op.And x o' e =
    let both : ◌≡◌ {A = Terminal × Op} (t.Then, op.AndThen) (x, o') = cc in
    let word : t.Then ≡ x = ap (λ p. p.0) both in
    let whole : op.AndThen ≡ o' = ap (λ p. p.1) both in
    subst (λ y. TwoTokens op.And y o') word (subst (λ y. TwoTokens op.And t.Then y) whole and_then)
two_tokens op.Or x o' e =
    let both : ◌≡◌ {A = Terminal × Op} (t.Else, op.OrElse) (x, o') = cc in
    let word : t.Else ≡ x = ap (λ p. p.0) both in
    let whole : op.OrElse ≡ o' = ap (λ p. p.1) both in
    subst (λ y. TwoTokens op.Or y o') word (subst (λ y. TwoTokens op.Or t.Else y) whole or_else)
two_tokens _ x o' e = cc

and_token : (x : Terminal) → operator x ≡ Some op.And → x ≡ t.And
and_token t.And e = refl
and_token _ e = cc

or_token : (x : Terminal) → operator x ≡ Some op.Or → x ≡ t.Or
or_token t.Or e = refl
or_token _ e = cc

pub two_level : {o : Op} {x : Terminal} {o' : Op} → TwoTokens o x o' → level o' ≡ level o
two_level and_then = refl
two_level or_else = refl

-- both tokens stand there
pub both_spelled : {o : Op} {x : Terminal} {o' : Op} {n : Token} (ts more mid : List Token) → TwoTokens o x o' → operator n.terminal ≡ Some o → ts ≡ n ∷ more
    → the x more mid → spells_operator o' n.place ts mid
both_spelled {n} ts more mid and_then e eq second = (more, the_at_here (and_token n.terminal e, eq), second)
both_spelled {n} ts more mid or_else e eq second = (more, the_at_here (or_token n.terminal e, eq), second)

-- only the first
pub first_spelled : {o : Op} {x : Terminal} {o' : Op} {n : Token} (ts more : List Token) → TwoTokens o x o' → operator n.terminal ≡ Some o → ts ≡ n ∷ more
    → (head more ≢ x) × (more ≡ more) → spells_operator o n.place ts more
first_spelled {n} ts more and_then e eq apart = (more, the_at_here (and_token n.terminal e, eq), apart)
first_spelled {n} ts more or_else e eq apart = (more, the_at_here (or_token n.terminal e, eq), apart)

-- an operator that has no second token
pub single_spelled : (o : Op) (n : Token) (ts more : List Token) → second_token o ≡ None → operator n.terminal ≡ Some o → ts ≡ n ∷ more → spells_operator o n.place ts more
single_spelled op.And n ts more e found eq = cc
single_spelled op.Or n ts more e found eq = cc
single_spelled op.AndThen n ts more e found eq = absurd ((binds_operator n.terminal op.AndThen found).2 refl)
single_spelled op.OrElse n ts more e found eq = absurd ((binds_operator n.terminal op.OrElse found).3 refl)
single_spelled o n ts more e found eq = one_here (λ y. (operator y.terminal ≡ Some o) × (y.place ≡ n.place)) eq (found, refl)
