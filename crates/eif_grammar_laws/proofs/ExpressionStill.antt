-- Types and expressions that end before a token end so before all that close.
use Rattle.std.proofs.Common.{◌≡◌, true, false, Bool, ℕ, nat_le, Option, Some, None, List, ◌⊎◌, inl, inr, refl}
use Rattle.eif_base.specs.declared.Place.{Place}
use Rattle.eif_tree.specs.declared.Mark.{Mark}
use Rattle.eif_tree.specs.declared.Op.{Op}
use Rattle.eif_tree.specs.Tree.{TypeT, Ex}
use Rattle.eif_grammar.specs.declared.terminal.Terminal.{Terminal}
use Rattle.eif_grammar.specs.declared.terminal.Terminal.TheVariants as t
use Rattle.eif_grammar.specs.Tokens.{Token}
use Rattle.eif_grammar.specs.Forms.{level, operator}
use Rattle.eif_grammar.specs.Goals.{TypeGoal, written, unmarked, actuals, more_types, ExpressionGoal, expression, climbing, operand, test_local, chain, dots, dotted, primary, precursor_rest, creator, arguments, listed, others, type_goal, expression_goal}
use Rattle.eif_grammar.specs.TypeRules.{TypeStart, with_mark, with_name, no_type, type_start, named, written_by, type_rule}
use Rattle.eif_grammar.specs.ExpressionRules.{second_token, right_of, behind_operator, climb, OperandStart, braced, attached, prefixed, chained, operand_start, tested, operand_by, qualify, PrimaryStart, by_name, by_precursor, by_parenthesis, by_create, no_primary, primary_start, primary_by, expression_rule}
use Rattle.eif_grammar.specs.Outcomes.{Outcome, Runs}
use Rattle.eif_grammar_laws.proofs.Endings.{at_closing, stops}
use Rattle.eif_grammar_laws.proofs.Closing.{not_here, closing_operator}
use Rattle.eif_grammar_laws.proofs.Stable.{Takes}
use Rattle.eif_grammar_laws.proofs.Takes.{takes_type_start, takes_operand, takes_primary}
use Rattle.eif_grammar_laws.proofs.Still.{Still, still_done, still_refuse, still_next, still_guard, still_fork, still_call, still_token, still_expect, still_taking, still_test}

-- ---- types

still_named : (g : TypeGoal) (room : ℕ) (p : Place) (m : Mark) (n : Token) → Still (type_goal g) (named room p m n)
still_named g room p m n = still_call (λ y st. st) (λ ts. still_done)

still_written : (g : TypeGoal) (room : ℕ) (s : TypeStart) → Still (type_goal g) (written_by room s)
still_written g room (with_mark m) = still_next (λ mark. still_token (still_named g room mark.place m))
still_written g room with_name = still_next (λ n. still_named g room n.place _ n)
still_written g room no_type = still_refuse

pub still_type : (g : TypeGoal) → Still (type_goal g) (type_rule g)
still_type (written room) = still_taking (λ x. still_written (written room) room (type_start x)) (λ x. takes_type_start room (type_start x))
still_type (unmarked room) = still_token (λ n. still_named (unmarked room) room n.place _ n)
still_type (actuals room) = still_test (not_here at_closing t.OpenBracket refl) tt
    (still_guard (still_next (λ w. still_call (λ y st. st) (λ ty. still_call (λ y st. st) (λ ts. still_expect still_done)))))
    still_done
still_type (more_types room) = still_test (not_here at_closing t.Comma refl) tt (still_next (λ w. still_call (λ y st. st) (λ ty. still_call (λ y st. st) (λ ts. still_done)))) still_done

-- ---- operators

still_right : (g : ExpressionGoal) (room least : ℕ) (left : Ex) (p : Place) (o : Op) → Still (expression_goal g) (right_of room least left p o)
still_right g room least left p o = still_call (λ y st. st) (λ right. still_call (λ y st. st) (λ e. still_done))

still_operator : (g : ExpressionGoal) (room least : ℕ) (left : Ex) (p : Place) (o : Op) (s : Option (Terminal × Op)) → Still (expression_goal g) (behind_operator room least left p o s)
still_operator g room least left p o None = still_right g room least left p o
still_operator g room least left p o (Some second) =
    still_taking (λ x. still_fork (still_next (λ w. still_right g room least left p second.1)) (still_right g room least left p o)) (λ x. (λ e. tt, λ e. inl refl))

still_climb : (g : ExpressionGoal) (room least : ℕ) (left : Ex) (o : Option Op) → Still (expression_goal g) (climb room least left o)
still_climb g room least left None = still_done
still_climb g room least left (Some o) = still_fork (still_guard (still_next (λ sign. still_operator g room least left sign.place o (second_token o)))) still_done

-- an operator is taken, or the operand ends as before what closes
same_climb : (g : ExpressionGoal) (room least : ℕ) (left : Ex) (o : Option Op) → Takes (climb room least left o)
    ⊎ ((y : Terminal) → stops (expression_goal g) y ≡ true → (ts : List Token) (u : Outcome Ex) → Runs (climb room least left o) ts u → Runs (climb room least left (operator y)) ts u)
same_climb g room least left None = inr (λ y st ts u r. rw (closing_operator y st) r)
same_climb g room least left (Some o) = by_level (nat_le least (level o)) refl
  where
    by_level : (c : Bool) → nat_le least (level o) ≡ c → Takes (climb room least left (Some o))
        ⊎ ((y : Terminal) → stops (expression_goal g) y ≡ true → (ts : List Token) (u : Outcome Ex) → Runs (climb room least left (Some o)) ts u
        → Runs (climb room least left (operator y)) ts u)
    by_level true e = inl (λ e'. tt, λ e'. cc)
    by_level false e = inr (λ y st ts u r.
        let low = rw e at r in
        rw (closing_operator y st) (record { depth = low.depth; runs = low.runs; ends = low.ends }))

-- ---- operands

still_tested : (g : ExpressionGoal) (room : ℕ) (p : Place) (ty : Option TypeT) → Still (expression_goal g) (tested room p ty)
still_tested g room p ty = still_call (λ y st. st) (λ e. still_call (λ y st. st) (λ l. still_done))

still_operand : (g : ExpressionGoal) (room : ℕ) (s : OperandStart) → Still (expression_goal g) (operand_by room s)
still_operand g room braced =
    still_guard (still_next (λ brace. still_token (λ n. still_expect (still_call (λ y st. st) (λ ty. still_expect (still_call (λ y st. st) (λ e. still_done)))))))
still_operand g room attached =
    still_guard (still_next (λ word. still_test (not_here at_closing t.OpenBrace refl) tt
    (still_next (λ w. still_call (λ y st. st) (λ ty. still_expect (still_tested g room word.place (Some ty)))))
    (still_tested g room word.place None)))
still_operand g room (prefixed o) = still_guard (still_next (λ sign. still_call (λ y st. st) (λ e. still_done)))
still_operand g room chained = still_call (λ y st. st) (λ e. still_done)

-- ---- chains

still_qualify : (g : ExpressionGoal) (room : ℕ) (left : Ex) → Still (expression_goal g) (qualify room left)
still_qualify g room left = still_token (λ n. still_call (λ y st. st) (λ args. still_call (λ y st. st) (λ e. still_done)))

still_primary : (g : ExpressionGoal) (room : ℕ) (s : PrimaryStart) → Still (expression_goal g) (primary_by room s)
still_primary g room by_name = still_next (λ n. still_call (λ y st. st) (λ args. still_done))
still_primary g room by_precursor = still_next (λ word. still_call (λ y st. st) (λ e. still_done))
still_primary g room by_parenthesis = still_guard (still_next (λ w. still_call (λ y st. st) (λ e. still_expect still_done)))
still_primary g room by_create =
    still_guard (still_next (λ word. still_expect (still_call (λ y st. st) (λ ty. still_expect (still_call (λ y st. st) (λ c. still_done))))))
still_primary g room no_primary = still_refuse
still_primary g room _ = still_next (λ x. still_done)

pub still_expression : (g : ExpressionGoal) → Still (expression_goal g) (expression_rule g)
still_expression (expression room least) = still_call (λ y st. st) (λ first. still_call (λ y st. st) (λ e. still_done))
still_expression (climbing room least left) =
    record { steady = λ x. ((still_climb (climbing room least left) room least left (operator x)).steady, same_climb (climbing room least left) room least left (operator x)) }
still_expression (operand room) = still_taking (λ x. still_operand (operand room) room (operand_start x)) (λ x. takes_operand room (operand_start x))
still_expression test_local = still_test (not_here at_closing t.As refl) tt (still_next (λ w. still_token (λ n. still_done))) still_done
still_expression (chain room) = still_call (λ y st. st) (λ first. still_call (λ y st. st) (λ e. still_done))
still_expression (dots room left) = still_test (not_here at_closing t.Dot refl) tt (still_guard (still_next (λ w. still_qualify (dots room left) room left))) still_done
still_expression (dotted room left) = still_guard (still_expect (still_qualify (dotted room left) room left))
still_expression (primary room) = still_taking (λ x. still_primary (primary room) room (primary_start x)) (λ x. takes_primary room (primary_start x))
still_expression (precursor_rest room p) = still_test (not_here at_closing t.OpenBrace refl) tt
    (still_next (λ w. still_token (λ n. still_expect (still_call (λ y st. st) (λ args. still_done)))))
    (still_call (λ y st. st) (λ args. still_done))
still_expression (creator room) = still_test (not_here at_closing t.Dot refl) tt (still_next (λ w. still_token (λ n. still_call (λ y st. st) (λ args. still_done)))) still_done
still_expression (arguments room) = still_test (not_here at_closing t.OpenParenthesis refl) tt
    (still_guard (still_next (λ w. still_call (λ y st. st) (λ es. still_expect still_done))))
    still_done
still_expression (listed room) = still_call (λ y st. st) (λ e. still_call (λ y st. st) (λ es. still_done))
still_expression (others room) = still_test (not_here at_closing t.Comma refl) tt (still_next (λ w. still_call (λ y st. st) (λ es. still_done))) still_done
