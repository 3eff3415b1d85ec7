use Rattle.std.proofs.Common.{drop, arith, true, false}
use Rattle.eif_tree.specs.View.{class_view}
use Rattle.eif_grammar.specs.ClassRules.{class_from}
use Rattle.eif_grammar.specs.Goals.{notes, class_text, class_goal}
use Rattle.eif_grammar.specs.Outcomes.{Runs, Calls}
use Rattle.eif_grammar_laws.proofs.Readers.{by_rule, called, call_refused}
use Rattle.eif_grammar_laws.proofs.Terminals.{on_other}
use Rattle.eif_parse_expr.proofs.Steps.{carry, relay, on_here}
use Rattle.eif_parse.proofs.class.class_text.Goals as goal

pub returns-in_err-start : goal.returns-in_err-start
returns-in_err-start c =
    let all = c.args.tokens.now.tokens in
    relay (Calls (class_goal notes) all) (Calls (class_goal class_text) all) (λ x. x) class_view all 0 0 _ _ c.from_residual.ensures.1 c.in_err-start.ensures (omega arith)
    (λ rest r. by_rule (call_refused r))

pub returns-in-Some : goal.returns-in-Some
returns-in-Some c =
    let all = c.args.tokens.now.tokens in let front = c.in_ok-start.ensures in let word = c.in-Some.ensures in let start = c.in-Some.start in
    carry (Runs (class_from true) (drop start all)) (Calls (class_goal class_text) all) class_view all start 0 c.class_from.result (omega arith)
    (λ o d. by_rule (called front.outcome (on_here word d))) c.class_from.ensures

pub returns-in-None : goal.returns-in-None
returns-in-None c =
    let all = c.args.tokens.now.tokens in let front = c.in_ok-start.ensures in let start = c.in_ok-start.field-0.next in
    carry (Runs (class_from false) (drop start all)) (Calls (class_goal class_text) all) class_view all start 0 c.class_from-in-None.result (omega arith)
    (λ o d. by_rule (called front.outcome (on_other c.in-None.ensures d))) c.class_from-in-None.ensures
