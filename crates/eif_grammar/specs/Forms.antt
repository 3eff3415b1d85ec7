-- Which tokens begin a form, and how tightly operators bind.
use Rattle.std.specs.Prelude.{ℕ, ◌+◌, Bool, true, false, if◌then◌else◌, Option, Some, None}
use Rattle.std.specs.Option.{option_map_or}
use Rattle.eif_grammar.specs.declared.terminal.Terminal.{Terminal}
use Rattle.eif_grammar.specs.declared.terminal.Terminal.TheVariants as t
use Rattle.eif_tree.specs.declared.Op.{Op}
use Rattle.eif_tree.specs.declared.Op.TheVariants as op

-- the level of a binary operator: 1 binds least, 7 most
abbrev pub level : Op → ℕ
level op.Implies = 1
level op.Or = 2
level op.OrElse = 2
level op.Xor = 2
level op.And = 3
level op.AndThen = 3
level op.Equal = 4
level op.NotEqual = 4
level op.Less = 4
level op.Greater = 4
level op.LessEqual = 4
level op.GreaterEqual = 4
level op.Plus = 5
level op.Minus = 5
level op.Times = 6
level op.Divide = 6
level op.Modulo = 6
level op.Power = 7
level op.Not = 0

-- the levels that are no operator's: an operand of a binary operator, the target of a call
abbrev pub unary_level : ℕ
unary_level = 8

abbrev pub target_level : ℕ
target_level = 9

-- `^` alone associates to the right
abbrev pub associates_right : Op → Bool
associates_right op.Power = true
associates_right _ = false

-- the least level of the operators in the left operand
abbrev pub left_level : Op → ℕ
left_level o = if associates_right o then level o + 1 else level o

-- the least level of the operators in the right operand
abbrev pub right_level : Op → ℕ
right_level o = if associates_right o then level o else level o + 1

-- the binary operator of one token, or the first token of `and then` and `or else`
abbrev pub operator : Terminal → Option Op
operator t.Implies = Some op.Implies
operator t.Or = Some op.Or
operator t.Xor = Some op.Xor
operator t.And = Some op.And
operator t.Equal = Some op.Equal
operator t.NotEqual = Some op.NotEqual
operator t.Less = Some op.Less
operator t.Greater = Some op.Greater
operator t.LessEqual = Some op.LessEqual
operator t.GreaterEqual = Some op.GreaterEqual
operator t.Plus = Some op.Plus
operator t.Minus = Some op.Minus
operator t.Times = Some op.Times
operator t.Divide = Some op.Divide
operator t.Modulo = Some op.Modulo
operator t.Power = Some op.Power
operator _ = None

-- a sign or `not` before its operand
abbrev pub prefix_operator : Terminal → Option Op
prefix_operator t.Not = Some op.Not
prefix_operator t.Plus = Some op.Plus
prefix_operator t.Minus = Some op.Minus
prefix_operator _ = None

-- how tightly a binary operator takes the expression that stands before it; 0 where the token is none
abbrev pub binds : Terminal → ℕ
binds x = option_map_or level (operator x) 0

-- a token begins an expression
abbrev pub begins_expression : Terminal → Bool
begins_expression t.Identifier = true
begins_expression t.Precursor = true
begins_expression t.Integer = true
begins_expression t.Character = true
begins_expression t.StringText = true
begins_expression t.True = true
begins_expression t.False = true
begins_expression t.Void = true
begins_expression t.Current = true
begins_expression t.Result = true
begins_expression t.OpenParenthesis = true
begins_expression t.Create = true
begins_expression t.OpenBrace = true
begins_expression t.Attached = true
begins_expression t.Not = true
begins_expression t.Plus = true
begins_expression t.Minus = true
begins_expression _ = false

-- a token begins an instruction
abbrev pub begins_instruction : Terminal → Bool
begins_instruction t.Identifier = true
begins_instruction t.Result = true
begins_instruction t.Precursor = true
begins_instruction t.Current = true
begins_instruction t.Create = true
begins_instruction t.If = true
begins_instruction t.From = true
begins_instruction t.Check = true
begins_instruction _ = false

-- a token begins a routine, behind its name, arguments and type
abbrev pub begins_routine : Terminal → Bool
begins_routine t.Obsolete = true
begins_routine t.Require = true
begins_routine t.Local = true
begins_routine t.Do = true
begins_routine t.Deferred = true
begins_routine _ = false

-- a token begins a clause of an adaptation
abbrev pub begins_clause : Terminal → Bool
begins_clause t.Rename = true
begins_clause t.Export = true
begins_clause t.Undefine = true
begins_clause t.Redefine = true
begins_clause t.Select = true
begins_clause _ = false
