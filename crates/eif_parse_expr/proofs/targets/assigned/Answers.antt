use Rattle.std.proofs.Common.{◌-◌, drop, arith}
use Rattle.eif_tree.specs.View.{expr_view, instr_view}
use Rattle.eif_grammar.specs.Goals.{expression, expression_goal}
use Rattle.eif_grammar.specs.InstructionRules.{assigned}
use Rattle.eif_grammar.specs.Outcomes.{got, Runs, Calls}
use Rattle.eif_grammar_laws.proofs.Readers.{called, call_refused, ended}
use Rattle.eif_parse_expr.proofs.Steps.{relay, next_here}
use Rattle.eif_parse_expr.proofs.targets.assigned.Goals as goal

pub returns-in_err-source-clause-reads : goal.returns-in_err-source-clause-reads
returns-in_err-source-clause-reads c =
    let a = c.args in let all = a.tokens.now.tokens in let sign = c.after.ensures in
    relay (Calls (expression_goal (expression (a.room - 1) 1)) (drop c.after.result all)) (Runs (assigned a.room a.target) (drop a.from all)) expr_view instr_view all c.after.result a.from _ _
    c.from_residual.ensures.1 c.in_err-source.ensures.reads (omega (arith, sign.behind)) (λ rest d. next_here sign (call_refused d))

pub returns-clause-reads : goal.returns-clause-reads
returns-clause-reads c =
    let a = c.args in let all = a.tokens.now.tokens in let sign = c.after.ensures in let source = c.in_ok-source.source in let r = c.in_ok-source.ensures.reads in
    let whole : Runs (assigned a.room a.target) (drop a.from all) (got (instr_view c.assign.result) (drop source.next all)) =
    rw (c.assign.ensures) (next_here sign (called r.outcome ended)) in
    record { outcome = whole; forward = omega (arith, sign.behind, r.forward); within = r.within }
