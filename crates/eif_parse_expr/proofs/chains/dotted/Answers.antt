use Rattle.std.proofs.Common.{drop, arith}
use Rattle.eif_tree.specs.View.{expr_view}
use Rattle.eif_grammar.specs.declared.terminal.Terminal.TheVariants as t
use Rattle.eif_grammar.specs.Goals.{dots, dotted, expression_goal}
use Rattle.eif_grammar.specs.Outcomes.{Runs, Calls}
use Rattle.eif_grammar_laws.proofs.Taken.{tail}
use Rattle.eif_parse_expr.specs.Subrules.{link}
use Rattle.eif_parse_expr.proofs.Bind.{bound, bound_refused}
use Rattle.eif_parse_expr.proofs.Steps.{carry, relay, relay_token}
use Rattle.eif_parse_expr.proofs.ExpressionSteps.{dots_rest, dotted_high, dotted_other, dotted_whole}
use Rattle.eif_parse_expr.proofs.chains.dotted.Goals as goal

pub returns-then-first-room-clause-reads : goal.returns-then-first-room-clause-reads
returns-then-first-room-clause-reads c =
    record { outcome = dotted_high (omega (arith, c.requires.height, c.if-first-room.true)); forward = omega arith; within = c.requires.start }

pub returns-in_err-start-clause-reads : goal.returns-in_err-start-clause-reads
returns-in_err-start-clause-reads c =
    let a = c.args in let all = a.tokens.now.tokens in let e = expr_view a.first.tree in
    relay_token (Calls (expression_goal (dotted a.room e)) (drop a.first.next all)) expr_view t.Dot all a.first.next a.first.next _ _ c.from_residual.ensures.1 c.in_err-start.ensures
    (omega arith) c.requires.start (λ other. dotted_other (omega (arith, c.requires.height, c.if-first-room.false)) other)

pub returns-in_err-left-clause-reads : goal.returns-in_err-left-clause-reads
returns-in_err-left-clause-reads c =
    let a = c.args in let all = a.tokens.now.tokens in let e = expr_view a.first.tree in let dot = c.in_ok-start.ensures in let start = c.in_ok-start.start in
    relay (Runs (link a.room e) (drop start all)) (Calls (expression_goal (dotted a.room e)) (drop a.first.next all)) expr_view expr_view all start a.first.next _ _
    c.from_residual-in_err-left.ensures.1 c.in_err-left.ensures.reads (omega (arith, dot.behind))
    (λ rest r. dotted_whole (omega (arith, c.requires.height, c.if-first-room.false)) dot (bound_refused (dots_rest a.room) (link a.room e) (drop start all) rest r))

pub returns-clause-reads : goal.returns-clause-reads
returns-clause-reads c =
    let a = c.args in let all = a.tokens.now.tokens in let e = expr_view a.first.tree in let dot = c.in_ok-start.ensures in let start = c.in_ok-start.start in
    let left = c.in_ok-left.left in let r = c.in_ok-left.ensures.reads in
    carry (Calls (expression_goal (dots a.room (expr_view left.tree))) (drop left.next all)) (Calls (expression_goal (dotted a.room e)) (drop a.first.next all)) expr_view all left.next a.first.next
    c.dots.result (omega (arith, dot.behind, r.forward))
    (λ o d. dotted_whole (omega (arith, c.requires.height, c.if-first-room.false)) dot
    (bound (dots_rest a.room) (link a.room e) (drop start all) (drop left.next all) (expr_view left.tree) o r.outcome (tail o d))) c.dots.ensures.reads
