use Rattle.std.proofs.Common.{◌≡◌, ◌<◌, drop, ap, ◌∙◌, arith}
use Rattle.eif_tree.specs.Tree.{current_value}
use Rattle.eif_tree.specs.View.{expr_view, instr_view}
use Rattle.eif_grammar.specs.Goals.{instruction, instruction_goal}
use Rattle.eif_grammar.specs.InstructionRules.{instruction_start, called_through, by_current}
use Rattle.eif_grammar.specs.Outcomes.{refused, Runs, Calls}
use Rattle.eif_grammar_laws.proofs.InstructionSteps.{instruction_at}
use Rattle.eif_grammar_laws.proofs.Taken.{roomy}
use Rattle.eif_parse_expr.specs.Readings.{first}
use Rattle.eif_parse_expr.proofs.Steps.{carry, next_here, no_room}
use Rattle.eif_parse_expr.proofs.call_instructions.on_current.Goals as goal

pub returns-then-room-le2-clause-reads : goal.returns-then-room-le2-clause-reads
returns-then-room-le2-clause-reads c =
    let a = c.args in let ts = drop a.from a.tokens.now.tokens in
    record { outcome = instruction_at a.room ts (refused ts) by_current (ap instruction_start c.requires.begins) (no_room 2 a.room c.if-room-le2.true); forward = omega arith; within = c.requires.start }

pub returns-clause-reads : goal.returns-clause-reads
returns-clause-reads c =
    let a = c.args in let all = a.tokens.now.tokens in let ts = drop a.from all in let word = c.after.ensures in
    let lower : 2 < a.room = omega (arith, c.if-room-le2.false) in
    let e : expr_view c.current_value.result ≡ current_value (first ts).place = c.current_value.ensures ∙ ap current_value c.place_at.ensures in
    carry (Runs (called_through a.room (expr_view c.current_value.result)) (drop c.after.result all)) (Calls (instruction_goal (instruction a.room)) ts) instr_view all c.after.result a.from c.called_through.result
    (omega (arith, word.behind))
    (λ u d. instruction_at a.room ts u by_current (ap instruction_start c.requires.begins) (roomy 2 a.room lower (next_here word (rw e at d)))) c.called_through.ensures.reads
