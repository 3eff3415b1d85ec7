use Rattle.std.proofs.Common.{◌≡◌, ◌≢◌, ◌<◌, ◌-◌, drop, refl, ap, ◌∙◌, arith}
use Rattle.eif_grammar.specs.Reader.{name_of}
use Rattle.eif_tree.specs.Tree.{unqualified}
use Rattle.eif_tree.specs.View.{expr_view, instr_view}
use Rattle.eif_grammar.specs.Goals.{instruction, arguments, expression_goal, instruction_goal}
use Rattle.eif_grammar.specs.InstructionRules.{instruction_start, assigned, called_on, by_name}
use Rattle.eif_grammar.specs.Outcomes.{refused, Runs, Calls}
use Rattle.eif_grammar.specs.Spelling.{head}
use Rattle.eif_grammar.specs.declared.terminal.Terminal.TheVariants as t
use Rattle.eif_grammar_laws.proofs.InstructionSteps.{instruction_at}
use Rattle.eif_grammar_laws.proofs.Readers.{called, call_refused}
use Rattle.eif_grammar_laws.proofs.Taken.{roomy}
use Rattle.eif_grammar_laws.proofs.Terminals.{on_found, on_other}
use Rattle.eif_parse_expr.specs.Readings.{first, exs_view}
use Rattle.eif_parse_expr.proofs.Steps.{carry, relay, next_here, no_room}
use Rattle.eif_parse_expr.proofs.call_instructions.on_name.Goals as goal

pub returns-then-room-le1-clause-reads : goal.returns-then-room-le1-clause-reads
returns-then-room-le1-clause-reads c =
    let a = c.args in let ts = drop a.from a.tokens.now.tokens in
    record { outcome = instruction_at a.room ts (refused ts) by_name (ap instruction_start c.requires.begins) (no_room 1 a.room c.if-room-le1.true); forward = omega arith; within = c.requires.start }

pub returns-then-is_at-clause-reads : goal.returns-then-is_at-clause-reads
returns-then-is_at-clause-reads c =
    let a = c.args in let all = a.tokens.now.tokens in let ts = drop a.from all in let word = c.after-next.ensures in let next = c.after-next.result in
    let lower : 1 < a.room = omega (arith, c.if-room-le1.false) in
    let sign : head (drop next all) ≡ t.Assign = c.is_at.ensures.0 c.if-is_at.true in
    let same : c.in_ok-name.name ≡ name_of (first ts) = c.in_ok-name.ensures in
    carry (Runs (assigned a.room c.in_ok-name.name) (drop next all)) (Calls (instruction_goal (instruction a.room)) ts) instr_view all next a.from c.assigned.result (omega (arith, word.behind))
    (λ u d. instruction_at a.room ts u by_name (ap instruction_start c.requires.begins) (roomy 1 a.room lower (next_here word (on_found sign (rw same at d))))) c.assigned.ensures.reads

pub returns-in_err-args-clause-reads : goal.returns-in_err-args-clause-reads
returns-in_err-args-clause-reads c =
    let a = c.args in let all = a.tokens.now.tokens in let ts = drop a.from all in let word = c.after-next.ensures in let next = c.after-next.result in
    let lower : 1 < a.room = omega (arith, c.if-room-le1.false) in
    let other : head (drop next all) ≢ t.Assign = λ same. let yes = c.is_at.ensures.1 same in let no = c.if-is_at.false in cc in
    relay (Calls (expression_goal (arguments (a.room - 1))) (drop next all)) (Calls (instruction_goal (instruction a.room)) ts) exs_view instr_view all next a.from _ _
    c.from_residual-in_err-args.ensures.1 c.in_err-args.ensures.reads (omega (arith, word.behind))
    (λ rest d. instruction_at a.room ts (refused rest) by_name (ap instruction_start c.requires.begins) (roomy 1 a.room lower (next_here word (on_other other (call_refused d)))))

pub returns-clause-reads : goal.returns-clause-reads
returns-clause-reads c =
    let a = c.args in let all = a.tokens.now.tokens in let ts = drop a.from all in let word = c.after-next.ensures in let next = c.after-next.result in
    let args = c.in_ok-args.args in let r = c.in_ok-args.ensures.reads in
    let lower : 1 < a.room = omega (arith, c.if-room-le1.false) in
    let other : head (drop next all) ≢ t.Assign = λ same. let yes = c.is_at.ensures.1 same in let no = c.if-is_at.false in cc in
    let e : expr_view c.unqualified.result ≡ unqualified (name_of (first ts)).place (name_of (first ts)).name (exs_view args.tree) =
    c.unqualified.ensures ∙ rw (c.in_ok-name.ensures) refl in
    carry (Runs (called_on a.room (expr_view c.unqualified.result)) (drop args.next all)) (Calls (instruction_goal (instruction a.room)) ts) instr_view all args.next a.from c.called_on.result
    (omega (arith, word.behind, r.forward))
    (λ u d. instruction_at a.room ts u by_name (ap instruction_start c.requires.begins) (roomy 1 a.room lower (next_here word (on_other other (called r.outcome (rw e at d)))))) c.called_on.ensures.reads
