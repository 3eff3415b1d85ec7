use Rattle.std.proofs.Common.{◌<◌, ◌-◌, drop, ap, arith}
use Rattle.eif_tree.specs.View.{expr_view, instr_view}
use Rattle.eif_grammar.specs.Goals.{instruction, precursor_rest, expression_goal, instruction_goal}
use Rattle.eif_grammar.specs.InstructionRules.{instruction_start, called_on, by_precursor}
use Rattle.eif_grammar.specs.Outcomes.{got, refused, Runs, Calls}
use Rattle.eif_grammar_laws.proofs.InstructionSteps.{instruction_at}
use Rattle.eif_grammar_laws.proofs.Readers.{called, call_refused}
use Rattle.eif_grammar_laws.proofs.Taken.{roomy}
use Rattle.eif_parse_expr.specs.Readings.{first}
use Rattle.eif_parse_expr.proofs.Steps.{carry, relay, next_here, no_room}
use Rattle.eif_parse_expr.proofs.call_instructions.on_precursor.Goals as goal

pub returns-then-room-le1-clause-reads : goal.returns-then-room-le1-clause-reads
returns-then-room-le1-clause-reads c =
    let a = c.args in let ts = drop a.from a.tokens.now.tokens in
    record { outcome = instruction_at a.room ts (refused ts) by_precursor (ap instruction_start c.requires.begins) (no_room 1 a.room c.if-room-le1.true); forward = omega arith; within = c.requires.start }

pub returns-in_err-first-clause-reads : goal.returns-in_err-first-clause-reads
returns-in_err-first-clause-reads c =
    let a = c.args in let all = a.tokens.now.tokens in let ts = drop a.from all in let word = c.after.ensures in let start = c.after.result in
    let lower : 1 < a.room = omega (arith, c.if-room-le1.false) in
    relay (Calls (expression_goal (precursor_rest (a.room - 1) c.place_at-place.result)) (drop start all)) (Calls (instruction_goal (instruction a.room)) ts) expr_view instr_view all start a.from _ _
    c.from_residual.ensures.1 c.in_err-first.ensures.reads (omega (arith, word.behind))
    (λ rest d. instruction_at a.room ts (refused rest) by_precursor (ap instruction_start c.requires.begins) (roomy 1 a.room lower (next_here word (call_refused (rw (c.place_at-place.ensures) at d)))))

pub returns-clause-reads : goal.returns-clause-reads
returns-clause-reads c =
    let a = c.args in let all = a.tokens.now.tokens in let ts = drop a.from all in let word = c.after.ensures in let start = c.after.result in
    let first' = c.in_ok-first.first in let r = c.in_ok-first.ensures.reads in
    let lower : 1 < a.room = omega (arith, c.if-room-le1.false) in
    let found : Calls (expression_goal (precursor_rest (a.room - 1) (first ts).place)) (drop start all) (got (expr_view first'.tree) (drop first'.next all)) =
    rw (c.place_at-place.ensures) at r.outcome in
    carry (Runs (called_on a.room (expr_view first'.tree)) (drop first'.next all)) (Calls (instruction_goal (instruction a.room)) ts) instr_view all first'.next a.from c.called_on.result
    (omega (arith, word.behind, r.forward))
    (λ u d. instruction_at a.room ts u by_precursor (ap instruction_start c.requires.begins) (roomy 1 a.room lower (next_here word (called found d)))) c.called_on.ensures.reads
