use Rattle.std.proofs.Common.{drop, arith}
use Rattle.eif_tree.specs.View.{kind_view}
use Rattle.eif_grammar.specs.declared.terminal.Terminal.TheVariants as t
use Rattle.eif_grammar.specs.Goals.{locals, compound, body, instruction_goal, class_goal}
use Rattle.eif_grammar.specs.Outcomes.{got, Calls}
use Rattle.eif_grammar.specs.Parts.{most_height}
use Rattle.eif_grammar_laws.proofs.Readers.{by_rule, called, call_refused, ended}
use Rattle.eif_grammar_laws.proofs.Terminals.{on_other}
use Rattle.eif_parse.specs.ClassSubrules.{groups_view}
use Rattle.eif_parse_expr.specs.InstructionSubrules.{inss_view}
use Rattle.eif_parse_expr.proofs.Steps.{relay, relay_token, on_here, expect_here, other_here}
use Rattle.eif_parse.proofs.routines.body.Goals as goal

pub returns-in-Some : goal.returns-in-Some
returns-in-Some c =
    let a = c.args in let all = a.tokens.now.tokens in let word = c.in-Some.ensures in
    let whole : Calls (class_goal body) (drop a.from all) (got (kind_view c.deferred_body.result) (drop c.in-Some.next all)) =
    rw c.deferred_body.ensures (by_rule (on_here word ended)) in
    record { outcome = whole; forward = omega (arith, word.behind); within = word.within }

pub returns-in_err-locals : goal.returns-in_err-locals
returns-in_err-locals c =
    let a = c.args in let all = a.tokens.now.tokens in
    relay (Calls (class_goal locals) (drop a.from all)) _ groups_view _ all a.from _ _ _ c.from_residual.ensures.1 c.in_err-locals.ensures (omega arith)
    (λ rest r. by_rule (on_other c.in_default.ensures (call_refused r)))

pub returns-in_err-start : goal.returns-in_err-start
returns-in_err-start c =
    let ls = c.in_ok-locals.ensures in
    relay_token _ _ t.Do c.args.tokens.now.tokens c.in_ok-locals.locals.next _ _ _ c.from_residual-in_err-start.ensures.1 c.in_err-start.ensures ls.forward ls.within
    (λ other. by_rule (on_other c.in_default.ensures (called ls.outcome (other_here other))))

pub returns-in_err-all : goal.returns-in_err-all
returns-in_err-all c =
    let all = c.args.tokens.now.tokens in let ls = c.in_ok-locals.ensures in let word = c.in_ok-start.ensures in let start = c.in_ok-start.start in
    relay (Calls (instruction_goal (compound most_height)) (drop start all)) _ inss_view _ all start _ _ _
    c.from_residual-in_err-all.ensures.1 c.in_err-all.ensures.reads (omega (arith, ls.forward, word.behind))
    (λ rest r. by_rule (on_other c.in_default.ensures (called ls.outcome (expect_here word (call_refused r)))))

pub returns : goal.returns
returns c =
    let a = c.args in let all = a.tokens.now.tokens in let ls = c.in_ok-locals.ensures in let word = c.in_ok-start.ensures in let is = c.in_ok-all.ensures.reads in
    let whole : Calls (class_goal body) (drop a.from all) (got (kind_view c.routine.result) (drop c.in_ok-all.all.next all)) =
    rw c.routine.ensures (by_rule (on_other c.in_default.ensures (called ls.outcome (expect_here word (called is.outcome ended))))) in
    record { outcome = whole; forward = omega (arith, ls.forward, word.behind, is.forward); within = is.within }
