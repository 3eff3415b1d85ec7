-- Parts of the grammar's rules, as functions read them.
use Rattle.std.specs.Prelude.{◌≡◌, ◌≢◌, ℕ, ◌-◌, nat_le, Bool, true, false, if◌then◌else◌, Option, Some, None, List, drop, Result, Ok, Err}
use Rattle.std.specs.Option.{option_map}
use Rattle.eif_base.specs.declared.Place.{Place}
use Rattle.eif_tree.specs.declared.Mark.{Mark}
use Rattle.eif_tree.specs.declared.Mark.TheVariants as m
use Rattle.eif_tree.specs.declared.NameAt.{NameAt}
use Rattle.eif_tree.specs.declared.Op.{Op}
use Rattle.eif_tree.specs.declared.Literal.TheVariants as lit
use Rattle.eif_tree.specs.Tree.{TypeT, Types, type_at, and_type, Ex, literal, void_value, current_value, result_value, qualified, test}
use Rattle.eif_tree.specs.ExpressionPlaces.{place_of}
use Rattle.eif_tree.specs.View.{type_view}
use Rattle.eif_grammar.specs.declared.terminal.Terminal.{Terminal}
use Rattle.eif_grammar.specs.declared.terminal.Terminal.TheVariants as t
use Rattle.eif_grammar.specs.Tokens.{Token}
use Rattle.eif_grammar.specs.Spelling.{head}
use Rattle.eif_grammar.specs.Forms.{level}
use Rattle.eif_grammar.specs.Literals.{integer_value, character_value, string_value}
use Rattle.eif_grammar.specs.Goals.{written, actuals, more_types, type_goal, token, Creator, test_local, chain, arguments, expression_goal}
use Rattle.eif_grammar.specs.ExpressionRules.{OperandStart, braced, attached, second_token}
use Rattle.eif_grammar.specs.Reader.{Reader, done, refuse, look, next, call, guard, fork, on, expect, name_of}
use Rattle.eif_grammar.specs.TypeRules.{TypeStart, with_mark, with_name, no_type, type_start}
use Rattle.eif_parse_expr.specs.declared.chains.CreatorCall.{CreatorCall}
use Rattle.eif_parse_expr.specs.declared.operators.Sign.{Sign}
use Rattle.eif_parse_expr.specs.declared.object_tests.TestHead.{TestHead}
use Rattle.eif_parse_expr.specs.declared.types.TypeHead.{TypeHead}
use Rattle.eif_parse_expr.specs.declared.parsed.PartError.{PartError}
use Rattle.eif_parse_expr.specs.declared.parsed.PartError.TheVariants.{At, Memory}
use Rattle.eif_parse_expr.specs.declared.parsed.Parsed.{Parsed}
use Rattle.eif_parse_expr.specs.Readings.{first, Taken, exs_view}

-- one reader and then another, by what the first found
abbrev pub bind : {A B : Type 0} → Reader A → (A → Reader B) → Reader B
bind (done a) k = k a
bind refuse k = refuse
bind (look f) k = look (λ x. bind (f x) k)
bind (next f) k = next (λ w. bind (f w) k)
bind (call g f) k = call g (λ a. bind (f a) k)
bind (guard b r) k = guard b (bind r k)
bind (fork b r s) k = fork b (bind r k) (bind s k)

abbrev pub creator_view : CreatorCall → Creator
creator_view c = record { name = c.name; arguments = exs_view c.args }

-- a name
abbrev pub Names : List Token → ℕ → Result (Parsed NameAt) PartError → Type 0
Names ts at (Ok x) = Taken t.Identifier ts at x.next × (x.tree ≡ name_of (first (drop at ts)))
Names ts at (Err (At p)) = (p ≡ at) × (head (drop at ts) ≢ t.Identifier)
Names ts at (Err Memory) = Unit {0}

-- ---- types

-- the mark that a token is
abbrev pub mark_of : Terminal → Option Mark
mark_of t.Question = Some m.Detachable
mark_of t.Detachable = Some m.Detachable
mark_of t.Exclamation = Some m.Attached
mark_of t.Attached = Some m.Attached
mark_of _ = None

-- a type up to its name
abbrev pub type_head_by : TypeStart → Reader TypeHead
type_head_by (with_mark m) = next (λ mark. call (token t.Identifier) (λ n. done (record { place = mark.place; mark = m; name = name_of n })))
type_head_by with_name = next (λ n. done (record { place = n.place; mark = m.Plain; name = name_of n }))
type_head_by no_type = refuse

abbrev pub type_head : Reader TypeHead
type_head = look (λ x. type_head_by (type_start x))

-- the type behind its name
abbrev pub headed : ℕ → TypeHead → Reader TypeT
headed room h = call (type_goal (actuals room)) (λ ts. done (type_at h.place h.name.place h.mark h.name.name ts))

-- a type and a closing brace
abbrev pub closed_type : ℕ → Reader TypeT
closed_type room = call (type_goal (written room)) (λ ty. expect t.CloseBrace (done ty))

-- one type or more
abbrev pub type_list : ℕ → Reader Types
type_list room =
    call (type_goal (written room)) (λ ty.
    call (type_goal (more_types room)) (λ ts. done (and_type ty ts)))

-- ---- operators

-- the operator, if its level is no lower
abbrev pub of_level : ℕ → Option Op → Option Op
of_level least None = None
of_level least (Some o) = if nat_le least (level o) then Some o else None

-- an operator behind its first token, which stands at that place
abbrev pub sign_behind : Place → Op → Option (Terminal × Op) → Reader Sign
sign_behind p o None = done (record { op = o; place = p })
sign_behind p o (Some second) = on second.0 (next (λ _. done (record { op = second.1; place = p }))) (done (record { op = o; place = p }))

-- an operator that begins with this one
abbrev pub sign : Op → Reader Sign
sign o = next (λ w. sign_behind w.place o (second_token o))

-- ---- tests

pub record TestHeadT : Type 0 where
  pub place : Place
  pub type_tree : Option TypeT
  pub local : Option NameAt

abbrev pub test_head_view : TestHead → TestHeadT
test_head_view h = record { place = h.place; type_tree = option_map type_view h.type_tree; local = h.local }

abbrev pub begins_test : Terminal → Bool
begins_test t.OpenBrace = true
begins_test t.Attached = true
begins_test _ = false

-- a test up to what it tests
abbrev pub test_head : ℕ → OperandStart → Reader TestHeadT
test_head room braced = next (λ brace.
    call (token t.Identifier) (λ n.
    expect t.Colon (
    call (type_goal (written room)) (λ ty.
    expect t.CloseBrace (done (record { place = brace.place; type_tree = Some ty; local = Some (name_of n) }))))))
test_head room attached = next (λ word.
    on t.OpenBrace (next (λ _.
    call (type_goal (written room)) (λ ty.
    expect t.CloseBrace (done (record { place = word.place; type_tree = Some ty; local = None })))))
    (done (record { place = word.place; type_tree = None; local = None })))
test_head room _ = refuse

-- the local that was named, or the one behind the tested expression
abbrev pub local_behind : Option NameAt → Reader (Option NameAt)
local_behind (Some n) = done (Some n)
local_behind None = call (expression_goal test_local) done

-- what is tested, and the rest of the test
abbrev pub test_rest : ℕ → TestHeadT → Reader Ex
test_rest room h = call (expression_goal (chain (room - 1))) (λ e. bind (local_behind h.local) (λ l. done (test h.place h.type_tree l e)))

-- ---- calls

-- a name and arguments behind a target and its dot
abbrev pub link : ℕ → Ex → Reader Ex
link room left =
    call (token t.Identifier) (λ n.
    call (expression_goal (arguments room)) (λ args. done (qualified (place_of left) left (name_of n) args)))

-- the parent behind `Precursor`, if one is named
abbrev pub parent_name : Reader (Option NameAt)
parent_name =
    on t.OpenBrace (next (λ _.
    call (token t.Identifier) (λ n.
    expect t.CloseBrace (done (Some (name_of n))))))
    (done None)

-- the value that is one token, if it is one
abbrev pub leaf_value : Terminal → Token → Option Ex
leaf_value t.Integer w = Some (literal w.place (lit.Int (integer_value w.text)))
leaf_value t.Character w = Some (literal w.place (lit.Char (character_value w.text)))
leaf_value t.StringText w = Some (literal w.place (lit.Text (string_value w.text)))
leaf_value t.True w = Some (literal w.place (lit.Bool true))
leaf_value t.False w = Some (literal w.place (lit.Bool false))
leaf_value t.Void w = Some (void_value w.place)
leaf_value t.Current w = Some (current_value w.place)
leaf_value t.Result w = Some (result_value w.place)
leaf_value _ w = None
