use Rattle.std.proofs.Common.{◌-◌, drop, ap, arith}
use Rattle.eif_tree.specs.View.{instr_view}
use Rattle.eif_grammar.specs.Goals.{assertions, instruction, instruction_goal}
use Rattle.eif_grammar.specs.InstructionRules.{instruction_start, by_check}
use Rattle.eif_grammar.specs.Outcomes.{got, refused, Calls}
use Rattle.eif_grammar.specs.declared.terminal.Terminal.TheVariants as t
use Rattle.eif_grammar_laws.proofs.InstructionSteps.{instruction_at}
use Rattle.eif_grammar_laws.proofs.Readers.{called, call_refused, ended}
use Rattle.eif_parse_expr.specs.InstructionSubrules.{assertions_view}
use Rattle.eif_parse_expr.proofs.Steps.{relay, relay_token, next_here, expect_here, other_here}
use Rattle.eif_parse_expr.proofs.instructions.checked.Goals as goal

pub returns-in_err-claims-clause-reads : goal.returns-in_err-claims-clause-reads
returns-in_err-claims-clause-reads c =
    let a = c.args in let all = a.tokens.now.tokens in let ts = drop a.from all in let word = c.after.ensures in let start = c.after.result in
    relay (Calls (instruction_goal (assertions (a.room - 1))) (drop start all)) (Calls (instruction_goal (instruction a.room)) ts) assertions_view instr_view all start a.from _ _
    c.from_residual.ensures.1 c.in_err-claims.ensures.reads (omega (arith, word.behind))
    (λ rest d. instruction_at a.room ts (refused rest) by_check (ap instruction_start c.requires.begins) (next_here word (call_refused d)))

pub returns-in_err-next-clause-reads : goal.returns-in_err-next-clause-reads
returns-in_err-next-clause-reads c =
    let a = c.args in let all = a.tokens.now.tokens in let ts = drop a.from all in let word = c.after.ensures in let claims = c.in_ok-claims.claims in let r = c.in_ok-claims.ensures.reads in
    relay_token (Calls (instruction_goal (instruction a.room)) ts) instr_view t.End all claims.next a.from _ _
    c.from_residual-in_err-next.ensures.1 c.in_err-next.ensures (omega (arith, word.behind, r.forward)) r.within
    (λ other. instruction_at a.room ts (refused (drop claims.next all)) by_check (ap instruction_start c.requires.begins) (next_here word (called r.outcome (other_here other))))

pub returns-clause-reads : goal.returns-clause-reads
returns-clause-reads c =
    let a = c.args in let all = a.tokens.now.tokens in let ts = drop a.from all in let word = c.after.ensures in let r = c.in_ok-claims.ensures.reads in let close = c.in_ok-next.ensures in
    let whole : Calls (instruction_goal (instruction a.room)) ts (got (instr_view c.check.result) (drop c.in_ok-next.next all)) =
    rw (c.check.ensures) (instruction_at a.room ts (got _ (drop c.in_ok-next.next all)) by_check (ap instruction_start c.requires.begins) (next_here word (called r.outcome (expect_here close ended)))) in
    record { outcome = whole; forward = omega (arith, word.behind, r.forward, close.behind); within = close.within }
