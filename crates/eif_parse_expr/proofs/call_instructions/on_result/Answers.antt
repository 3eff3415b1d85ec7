use Rattle.std.proofs.Common.{◌≡◌, ◌≢◌, ◌<◌, drop, refl, ap, ◌∙◌, arith}
use Rattle.eif_tree.specs.Tree.{result_value}
use Rattle.eif_tree.specs.View.{expr_view, instr_view}
use Rattle.eif_grammar.specs.Goals.{instruction, instruction_goal}
use Rattle.eif_grammar.specs.InstructionRules.{instruction_start, assigned, result_of, called_through, by_result}
use Rattle.eif_grammar.specs.Outcomes.{refused, Runs, Calls}
use Rattle.eif_grammar.specs.Spelling.{head}
use Rattle.eif_grammar.specs.declared.terminal.Terminal.TheVariants as t
use Rattle.eif_grammar_laws.proofs.InstructionSteps.{instruction_at}
use Rattle.eif_grammar_laws.proofs.Taken.{roomy}
use Rattle.eif_grammar_laws.proofs.Terminals.{on_found, on_other}
use Rattle.eif_parse_expr.specs.Readings.{first}
use Rattle.eif_parse_expr.proofs.Steps.{carry, next_here, no_room}
use Rattle.eif_parse_expr.proofs.call_instructions.on_result.Goals as goal

pub returns-then-room-le1-clause-reads : goal.returns-then-room-le1-clause-reads
returns-then-room-le1-clause-reads c =
    let a = c.args in let ts = drop a.from a.tokens.now.tokens in
    record { outcome = instruction_at a.room ts (refused ts) by_result (ap instruction_start c.requires.begins) (no_room 1 a.room c.if-room-le1.true); forward = omega arith; within = c.requires.start }

pub returns-then-is_at-clause-reads : goal.returns-then-is_at-clause-reads
returns-then-is_at-clause-reads c =
    let a = c.args in let all = a.tokens.now.tokens in let ts = drop a.from all in let word = c.after-next.ensures in let next = c.after-next.result in
    let lower : 1 < a.room = omega (arith, c.if-room-le1.false) in
    let sign : head (drop next all) ≡ t.Assign = c.is_at.ensures.0 c.if-is_at.true in
    let name = c.in_ok-name.name in
    let same : name ≡ result_of (first ts) = c.in_ok-name.ensures ∙ rw (c.place_at-place.ensures) refl in
    carry (Runs (assigned a.room name) (drop next all)) (Calls (instruction_goal (instruction a.room)) ts) instr_view all next a.from c.assigned.result (omega (arith, word.behind))
    (λ u d. instruction_at a.room ts u by_result (ap instruction_start c.requires.begins) (roomy 1 a.room lower (next_here word (on_found sign (rw same at d))))) c.assigned.ensures.reads

pub returns-clause-reads : goal.returns-clause-reads
returns-clause-reads c =
    let a = c.args in let all = a.tokens.now.tokens in let ts = drop a.from all in let word = c.after-next.ensures in let next = c.after-next.result in
    let lower : 1 < a.room = omega (arith, c.if-room-le1.false) in
    let other : head (drop next all) ≢ t.Assign = λ same. let yes = c.is_at.ensures.1 same in let no = c.if-is_at.false in cc in
    let e : expr_view c.result_value.result ≡ result_value (first ts).place = c.result_value.ensures ∙ ap result_value c.place_at-place.ensures in
    carry (Runs (called_through a.room (expr_view c.result_value.result)) (drop next all)) (Calls (instruction_goal (instruction a.room)) ts) instr_view all next a.from c.called_through.result
    (omega (arith, word.behind))
    (λ u d. instruction_at a.room ts u by_result (ap instruction_start c.requires.begins) (roomy 1 a.room lower (next_here word (on_other other (rw e at d))))) c.called_through.ensures.reads
