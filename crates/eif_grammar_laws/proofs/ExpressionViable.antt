-- What was taken of an expression can be completed: a missing expression is `Void`, a missing name an identifier.
use Rattle.std.proofs.Common.{◌≡◌, ℕ, ◌-◌, ◌≤◌, ◌<◌, nat_lt, true, Option, Some, None, [], refl, arith}
use Rattle.std.proofs.lemmas.Bool.Decides.{nat_tests}
use Rattle.eif_base.specs.declared.Place.{Place}
use Rattle.eif_tree.specs.declared.Op.{Op}
use Rattle.eif_tree.specs.declared.Op.TheVariants as op
use Rattle.eif_tree.specs.Tree.{TypeT, Ex}
use Rattle.eif_tree.specs.Height.{height}
use Rattle.eif_grammar.specs.declared.terminal.Terminal.TheVariants as t
use Rattle.eif_grammar.specs.Spelling.{head}
use Rattle.eif_grammar.specs.Forms.{operator}
use Rattle.eif_grammar.specs.Goals.{ExpressionGoal, expression, climbing, operand, test_local, chain, dots, dotted, primary, precursor_rest, creator, arguments, listed, others, expression_goal}
use Rattle.eif_grammar.specs.ExpressionRules.{second_token, right_of, behind_operator, climb, OperandStart, braced, attached, prefixed, chained, operand_start, tested, operand_by, qualify, PrimaryStart, by_name, by_precursor, by_parenthesis, by_create, no_primary, primary_start, primary_by, expression_rule}
use Rattle.eif_grammar_laws.proofs.Readers.{by_rule, looked, ended}
use Rattle.eif_grammar_laws.proofs.Levels.{height_some}
use Rattle.eif_grammar_laws.proofs.Endings.{at_closing, expression_room}
use Rattle.eif_grammar_laws.proofs.Closing.{not_here, closing_operator}
use Rattle.eif_grammar_laws.proofs.Completions.{Sample, sample_of, one_token, ends_done, ends_call, ends_next, ends_guard, ends_look, ends_other, Living, Live, living_done, living_refuse, living_look, living_next, living_guard, living_fork, living_test, living_call, living_expect, live_done, live_call, live_token, live_expect, live_other}
use Rattle.eif_grammar_laws.proofs.TypeViable.{a_type, room_under}

-- ---- words that complete an expression

pub no_arguments : (room : ℕ) → Sample (expression_goal (arguments room)) None
no_arguments room = sample_of (ends_other (not_here at_closing t.OpenParenthesis refl) ends_done)

pub no_others : (room : ℕ) → Sample (expression_goal (others room)) None
no_others room = sample_of (ends_other (not_here at_closing t.Comma refl) ends_done)

pub no_dots : (room : ℕ) (left : Ex) → Sample (expression_goal (dots room left)) None
no_dots room left = sample_of (ends_other (not_here at_closing t.Dot refl) ends_done)

pub no_operators : (room least : ℕ) (left : Ex) → Sample (expression_goal (climbing room least left)) None
no_operators room least left =
    record { value = left; word = []; begins = λ rest. refl; calls = λ rest st. by_rule (looked (rw (closing_operator (head rest) st) ended)) }

pub no_local : Sample (expression_goal test_local) None
no_local = sample_of (ends_other (not_here at_closing t.As refl) ends_done)

pub no_creator : (room : ℕ) → Sample (expression_goal (creator room)) None
no_creator room = sample_of (ends_other (not_here at_closing t.Dot refl) ends_done)

pub no_parent : (room : ℕ) (p : Place) → Sample (expression_goal (precursor_rest room p)) None
no_parent room p = sample_of (ends_other (not_here at_closing t.OpenBrace refl) (ends_call (no_arguments room) (λ y st. st) ends_done))

pub a_primary : (room : ℕ) → Sample (expression_goal (primary room)) (Some t.Void)
a_primary room = sample_of (ends_look t.Void (ends_next t.Void ends_done))

pub a_chain : (room : ℕ) → Sample (expression_goal (chain room)) (Some t.Void)
a_chain room = sample_of (ends_call (a_primary room) (λ y st. st) (ends_call (no_dots room _) (λ y st. st) ends_done))

pub an_operand : (room : ℕ) → Sample (expression_goal (operand room)) (Some t.Void)
an_operand room = sample_of (ends_look t.Void (ends_call (a_chain room) (λ y st. st) ends_done))

pub an_expression : (room least : ℕ) → Sample (expression_goal (expression room least)) (Some t.Void)
an_expression room least = sample_of (ends_call (an_operand room) (λ y st. st) (ends_call (no_operators room least _) (λ y st. st) ends_done))

pub an_argument : (room : ℕ) → Sample (expression_goal (listed room)) (Some t.Void)
an_argument room = sample_of (ends_call (an_expression room 1) (λ y st. st) (ends_call (no_others room) (λ y st. st) ends_done))

-- a dot and a name
pub a_dotted : (room : ℕ) (left : Ex) → height left < room → Sample (expression_goal (dotted room left)) (Some t.Dot)
a_dotted room left low =
    sample_of (ends_guard (grind (arith, nat_tests))
    (ends_call (one_token t.Dot) (λ y st. refl)
    (ends_call (one_token t.Identifier) (λ y st. refl)
    (ends_call (no_arguments room) (λ y st. st)
    (ends_call (no_dots room _) (λ y st. st) ends_done)))))

-- ---- operators

live_right : (g : ExpressionGoal) (room least : ℕ) (left : Ex) (p : Place) (o : Op) → 1 ≤ room → 1 ≤ room - 1 → Live (expression_goal g) (Some t.Void) (right_of room least left p o)
live_right g room least left p o ok low =
    live_call (an_expression (room - 1) _) low (λ y st. st) (λ right.
    live_call (no_operators room least _) ok (λ y st. st) (λ e. live_done))

live_operator : (g : ExpressionGoal) (room least : ℕ) (left : Ex) (p : Place) (o : Op) → 1 ≤ room → 1 ≤ room - 1
    → Live (expression_goal g) (Some t.Void) (behind_operator room least left p o (second_token o))
live_operator g room least left p op.And ok low = live_other (λ y st. refl) (living_next (λ w. live_right g room least left p op.AndThen ok low)) (live_right g room least left p op.And ok low)
live_operator g room least left p op.Or ok low = live_other (λ y st. refl) (living_next (λ w. live_right g room least left p op.OrElse ok low)) (live_right g room least left p op.Or ok low)
live_operator g room least left p o ok low = live_right g room least left p o ok low

under_left : (room : ℕ) (left : Ex) → nat_lt (height left) room ≡ true → 1 ≤ room - 1
under_left room left e = grind (arith, nat_tests, height_some left)

living_climb : (g : ExpressionGoal) (room least : ℕ) (left : Ex) → 1 ≤ room → (o : Option Op) → Living (expression_goal g) (climb room least left o)
living_climb g room least left ok None = living_done
living_climb g room least left ok (Some o) = living_fork
    (λ e. living_guard (λ low. living_next (λ sign. live_operator g room least left sign.place o ok (under_left room left low))))
    (λ e. living_done)

-- ---- operands

live_tested : (g : ExpressionGoal) (room : ℕ) (p : Place) (ty : Option TypeT) → 1 ≤ room - 1 → Live (expression_goal g) (Some t.Void) (tested room p ty)
live_tested g room p ty low = live_call (a_chain (room - 1)) low (λ y st. st) (λ e. live_call no_local tt (λ y st. st) (λ l. live_done))

living_operand : (g : ExpressionGoal) (room : ℕ) → 1 ≤ room → (s : OperandStart) → Living (expression_goal g) (operand_by room s)
living_operand g room ok braced = living_guard (λ low. living_next (λ brace.
    live_token (λ n. live_expect (
    live_call (a_type (room - 1)) (room_under room low) (λ y st. refl) (λ ty. live_expect (
    live_call (a_chain (room - 1)) (room_under room low) (λ y st. st) (λ e. live_done)))))))
living_operand g room ok attached = living_guard (λ low. living_next (λ word.
    live_other (λ y st. refl)
    (living_next (λ w. live_call (a_type (room - 1)) (room_under room low) (λ y st. refl) (λ ty. live_expect (live_tested g room word.place (Some ty) (room_under room low)))))
    (live_tested g room word.place None (room_under room low))))
living_operand g room ok (prefixed o) = living_guard (λ low. living_next (λ sign. live_call (an_operand (room - 1)) (room_under room low) (λ y st. st) (λ e. live_done)))
living_operand g room ok chained = living_call ok (λ y st. st) (λ e. live_done)

-- ---- chains

live_qualify : (g : ExpressionGoal) (room : ℕ) (left : Ex) → 1 ≤ room → Live (expression_goal g) (Some t.Identifier) (qualify room left)
live_qualify g room left ok =
    live_token (λ n. live_call (no_arguments room) ok (λ y st. st) (λ args. live_call (no_dots room _) ok (λ y st. st) (λ e. live_done)))

living_primary : (g : ExpressionGoal) (room : ℕ) → 1 ≤ room → (s : PrimaryStart) → Living (expression_goal g) (primary_by room s)
living_primary g room ok by_name = living_next (λ n. live_call (no_arguments room) ok (λ y st. st) (λ args. live_done))
living_primary g room ok by_precursor = living_next (λ word. live_call (no_parent room word.place) ok (λ y st. st) (λ e. live_done))
living_primary g room ok by_parenthesis =
    living_guard (λ low. living_next (λ w. live_call (an_expression (room - 1) 1) (room_under room low) (λ y st. refl) (λ e. live_expect live_done)))
living_primary g room ok by_create = living_guard (λ low. living_next (λ word. live_expect (
    live_call (a_type (room - 1)) (room_under room low) (λ y st. refl) (λ ty. live_expect (
    live_call (no_creator room) ok (λ y st. st) (λ c. live_done))))))
living_primary g room ok no_primary = living_refuse
living_primary g room ok _ = living_next (λ x. live_done)

pub living_expression : (g : ExpressionGoal) → expression_room g → Living (expression_goal g) (expression_rule g)
living_expression (expression room least) ok = living_call ok (λ y st. st) (λ first. live_call (no_operators room least first) ok (λ y st. st) (λ e. live_done))
living_expression (climbing room least left) ok = living_look (λ x. living_climb (climbing room least left) room least left ok (operator x))
living_expression (operand room) ok = living_look (λ x. living_operand (operand room) room ok (operand_start x))
living_expression test_local ok = living_test (living_next (λ w. live_token (λ n. live_done))) living_done
living_expression (chain room) ok = living_call ok (λ y st. st) (λ first. live_call (no_dots room first) ok (λ y st. st) (λ e. live_done))
living_expression (dots room left) ok = living_test (living_guard (λ low. living_next (λ w. live_qualify (dots room left) room left ok))) living_done
living_expression (dotted room left) ok = living_guard (λ low. living_expect (live_qualify (dotted room left) room left ok))
living_expression (primary room) ok = living_look (λ x. living_primary (primary room) room ok (primary_start x))
living_expression (precursor_rest room p) ok = living_test
    (living_next (λ w. live_token (λ n. live_expect (live_call (no_arguments room) ok (λ y st. st) (λ args. live_done)))))
    (living_call ok (λ y st. st) (λ args. live_done))
living_expression (creator room) ok = living_test (living_next (λ w. live_token (λ n. live_call (no_arguments room) ok (λ y st. st) (λ args. live_done)))) living_done
living_expression (arguments room) ok = living_test
    (living_guard (λ low. living_next (λ w. live_call (an_argument (room - 1)) (room_under room low) (λ y st. refl) (λ es. live_expect live_done))))
    living_done
living_expression (listed room) ok = living_call ok (λ y st. st) (λ e. live_call (no_others room) ok (λ y st. st) (λ es. live_done))
living_expression (others room) ok = living_test (living_next (λ w. live_call (an_argument room) ok (λ y st. st) (λ es. live_done))) living_done
