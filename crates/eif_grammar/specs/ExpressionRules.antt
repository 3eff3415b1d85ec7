-- How expressions are read: one rule for each goal.
use Rattle.std.specs.Prelude.{ℕ, ◌-◌, nat_lt, nat_le, true, false, Option, Some, None}
use Rattle.std.specs.Str.{str_to_ascii_lowercase}
use Rattle.eif_base.specs.declared.Place.{Place}
use Rattle.eif_tree.specs.declared.Op.{Op}
use Rattle.eif_tree.specs.declared.Op.TheVariants as op
use Rattle.eif_tree.specs.declared.Literal.TheVariants as lit
use Rattle.eif_tree.specs.Tree.{TypeT, Ex, literal, void_value, current_value, result_value, unqualified, precursor, qualified, creation, test, paren, unary, binary, no_exs, and_ex}
use Rattle.eif_tree.specs.ExpressionPlaces.{place_of}
use Rattle.eif_tree.specs.Height.{height}
use Rattle.eif_grammar.specs.declared.terminal.Terminal.{Terminal}
use Rattle.eif_grammar.specs.declared.terminal.Terminal.TheVariants as t
use Rattle.eif_grammar.specs.Literals.{integer_value, character_value, string_value}
use Rattle.eif_grammar.specs.Forms.{level, right_level, operator}
use Rattle.eif_grammar.specs.Goals.{written, ExpressionGoal, ExpressionFound, expression, climbing, operand, test_local, chain, dots, dotted, primary, precursor_rest, creator, arguments, listed, others, type_goal, expression_goal, token}
use Rattle.eif_grammar.specs.Reader.{Reader, done, refuse, look, next, call, guard, fork, on, expect, name_of}

-- ---- operators

-- the second token that an operator may have, and the operator that it then is
abbrev pub second_token : Op → Option (Terminal × Op)
second_token op.And = Some (t.Then, op.AndThen)
second_token op.Or = Some (t.Else, op.OrElse)
second_token _ = None

-- behind the operator at that place
abbrev pub right_of : ℕ → ℕ → Ex → Place → Op → Reader Ex
right_of room least left p o =
    call (expression_goal (expression (room - 1) (right_level o))) (λ right.
    call (expression_goal (climbing room least (binary (place_of left) o p left right))) done)

abbrev pub behind_operator : ℕ → ℕ → Ex → Place → Op → Option (Terminal × Op) → Reader Ex
behind_operator room least left p o None = right_of room least left p o
behind_operator room least left p o (Some second) = on second.0 (next (λ _. right_of room least left p second.1)) (right_of room least left p o)

abbrev pub climb : ℕ → ℕ → Ex → Option Op → Reader Ex
climb room least left None = done left
climb room least left (Some o) =
    fork (nat_le least (level o)) (guard (nat_lt (height left) room) (next (λ sign. behind_operator room least left sign.place o (second_token o))))
    (done left)

-- ---- operands

-- how an operand begins
pub data OperandStart : Type 0 where
  braced : OperandStart
  attached : OperandStart
  prefixed : Op → OperandStart
  chained : OperandStart

abbrev pub operand_start : Terminal → OperandStart
operand_start t.OpenBrace = braced
operand_start t.Attached = attached
operand_start t.Not = prefixed op.Not
operand_start t.Plus = prefixed op.Plus
operand_start t.Minus = prefixed op.Minus
operand_start _ = chained

-- the tested expression and its local, behind `attached` and the type
abbrev pub tested : ℕ → Place → Option TypeT → Reader Ex
tested room p ty =
    call (expression_goal (chain (room - 1))) (λ e.
    call (expression_goal test_local) (λ l. done (test p ty l e)))

abbrev pub operand_by : ℕ → OperandStart → Reader Ex
operand_by room braced =
    guard (nat_lt 1 room) (next (λ brace.
    call (token t.Identifier) (λ n.
    expect t.Colon (
    call (type_goal (written (room - 1))) (λ ty.
    expect t.CloseBrace (
    call (expression_goal (chain (room - 1))) (λ e. done (test brace.place (Some ty) (Some (name_of n)) e))))))))
operand_by room attached =
    guard (nat_lt 1 room) (next (λ word.
    on t.OpenBrace (next (λ _.
    call (type_goal (written (room - 1))) (λ ty.
    expect t.CloseBrace (tested room word.place (Some ty)))))
    (tested room word.place None)))
operand_by room (prefixed o) =
    guard (nat_lt 1 room) (next (λ sign.
    call (expression_goal (operand (room - 1))) (λ e. done (unary sign.place o e))))
operand_by room chained = call (expression_goal (chain room)) done

-- ---- chains

-- a dot and what stands behind it
abbrev pub qualify : ℕ → Ex → Reader Ex
qualify room left =
    call (token t.Identifier) (λ n.
    call (expression_goal (arguments room)) (λ args.
    call (expression_goal (dots room (qualified (place_of left) left (name_of n) args))) done))

-- how a primary begins
pub data PrimaryStart : Type 0 where
  by_name : PrimaryStart
  by_precursor : PrimaryStart
  by_integer : PrimaryStart
  by_character : PrimaryStart
  by_string : PrimaryStart
  by_true : PrimaryStart
  by_false : PrimaryStart
  by_void : PrimaryStart
  by_current : PrimaryStart
  by_result : PrimaryStart
  by_parenthesis : PrimaryStart
  by_create : PrimaryStart
  no_primary : PrimaryStart

abbrev pub primary_start : Terminal → PrimaryStart
primary_start t.Identifier = by_name
primary_start t.Precursor = by_precursor
primary_start t.Integer = by_integer
primary_start t.Character = by_character
primary_start t.StringText = by_string
primary_start t.True = by_true
primary_start t.False = by_false
primary_start t.Void = by_void
primary_start t.Current = by_current
primary_start t.Result = by_result
primary_start t.OpenParenthesis = by_parenthesis
primary_start t.Create = by_create
primary_start _ = no_primary

abbrev pub primary_by : ℕ → PrimaryStart → Reader Ex
primary_by room by_name = next (λ n. call (expression_goal (arguments room)) (λ args. done (unqualified n.place (str_to_ascii_lowercase n.text) args)))
primary_by room by_precursor = next (λ word. call (expression_goal (precursor_rest room word.place)) done)
primary_by room by_integer = next (λ x. done (literal x.place (lit.Int (integer_value x.text))))
primary_by room by_character = next (λ x. done (literal x.place (lit.Char (character_value x.text))))
primary_by room by_string = next (λ x. done (literal x.place (lit.Text (string_value x.text))))
primary_by room by_true = next (λ x. done (literal x.place (lit.Bool true)))
primary_by room by_false = next (λ x. done (literal x.place (lit.Bool false)))
primary_by room by_void = next (λ x. done (void_value x.place))
primary_by room by_current = next (λ x. done (current_value x.place))
primary_by room by_result = next (λ x. done (result_value x.place))
primary_by room by_parenthesis =
    guard (nat_lt 1 room) (next (λ open'.
    call (expression_goal (expression (room - 1) 1)) (λ e.
    expect t.CloseParenthesis (done (paren open'.place e)))))
primary_by room by_create =
    guard (nat_lt 1 room) (next (λ word.
    expect t.OpenBrace (
    call (type_goal (written (room - 1))) (λ ty.
    expect t.CloseBrace (
    call (expression_goal (creator room)) (λ c. done (creation word.place ty c.name c.arguments)))))))
primary_by room no_primary = refuse

abbrev pub expression_rule : (g : ExpressionGoal) → Reader (ExpressionFound g)
expression_rule (expression room least) =
    call (expression_goal (operand room)) (λ first.
    call (expression_goal (climbing room least first)) done)
expression_rule (climbing room least left) = look (λ x. climb room least left (operator x))
expression_rule (operand room) = look (λ x. operand_by room (operand_start x))
expression_rule test_local = on t.As (next (λ _. call (token t.Identifier) (λ n. done (Some (name_of n))))) (done None)
expression_rule (chain room) =
    call (expression_goal (primary room)) (λ first.
    call (expression_goal (dots room first)) done)
expression_rule (dots room left) = on t.Dot (guard (nat_lt (height left) room) (next (λ _. qualify room left))) (done left)
expression_rule (dotted room left) = guard (nat_lt (height left) room) (expect t.Dot (qualify room left))
expression_rule (primary room) = look (λ x. primary_by room (primary_start x))
expression_rule (precursor_rest room p) =
    on t.OpenBrace (next (λ _.
    call (token t.Identifier) (λ n.
    expect t.CloseBrace (
    call (expression_goal (arguments room)) (λ args. done (precursor p (Some (name_of n)) args))))))
    (call (expression_goal (arguments room)) (λ args. done (precursor p None args)))
expression_rule (creator room) =
    on t.Dot (next (λ _.
    call (token t.Identifier) (λ n.
    call (expression_goal (arguments room)) (λ args. done (record { name = Some (name_of n); arguments = args })))))
    (done (record { name = None; arguments = no_exs }))
expression_rule (arguments room) =
    on t.OpenParenthesis (guard (nat_lt 1 room) (next (λ _.
    call (expression_goal (listed (room - 1))) (λ es.
    expect t.CloseParenthesis (done es)))))
    (done no_exs)
expression_rule (listed room) =
    call (expression_goal (expression room 1)) (λ e.
    call (expression_goal (others room)) (λ es. done (and_ex e es)))
expression_rule (others room) = on t.Comma (next (λ _. call (expression_goal (listed room)) done)) (done no_exs)
