use Rattle.std.proofs.Common.{◌<◌, ◌-◌, Some, None, drop, arith}
use Rattle.eif_tree.specs.View.{type_view, instr_view}
use Rattle.eif_grammar.specs.Goals.{instruction, instruction_goal}
use Rattle.eif_grammar.specs.InstructionRules.{created}
use Rattle.eif_grammar.specs.Outcomes.{Runs, Calls}
use Rattle.eif_parse_expr.specs.Subrules.{closed_type}
use Rattle.eif_parse_expr.proofs.InstructionSteps.{create_plain, create_high, create_typed, typed_rest}
use Rattle.eif_parse_expr.proofs.Bind.{bound, bound_refused}
use Rattle.eif_parse_expr.proofs.Steps.{carry, relay}
use Rattle.eif_parse_expr.proofs.targets.creation.Goals as goal

pub returns-in_default-clause-reads : goal.returns-in_default-clause-reads
returns-in_default-clause-reads c =
    let a = c.args in let all = a.tokens.now.tokens in let word = c.after-start.ensures in let start = c.after-start.result in
    carry (Runs (created a.room c.place_at-place.result None) (drop start all)) (Calls (instruction_goal (instruction a.room)) (drop a.from all)) instr_view all start a.from c.created.result
    (omega (arith, word.behind)) (λ u d. create_plain c.requires.begins word c.in_default.ensures (rw (c.place_at-place.ensures) at d)) c.created.ensures.reads

pub returns-then-room-eq1-clause-reads : goal.returns-then-room-eq1-clause-reads
returns-then-room-eq1-clause-reads c =
    let word = c.after-start.ensures in
    record { outcome = create_high c.requires.begins word c.in-Some.ensures (omega (arith, c.if-room-eq1.true)); forward = omega (arith, word.behind); within = word.within }

pub returns-in_err-made-clause-reads : goal.returns-in_err-made-clause-reads
returns-in_err-made-clause-reads c =
    let a = c.args in let all = a.tokens.now.tokens in let ts = drop a.from all in let word = c.after-start.ensures in let brace = c.in-Some.ensures in let inner = c.in-Some.inner in
    let lower : 1 < a.room = omega (arith, c.requires.some, c.if-room-eq1.false) in
    relay (Runs (closed_type (a.room - 1)) (drop inner all)) (Calls (instruction_goal (instruction a.room)) ts) type_view instr_view all inner a.from _ _
    c.from_residual.ensures.1 c.in_err-made.ensures.reads (omega (arith, word.behind, brace.behind))
    (λ rest r. create_typed c.requires.begins lower word brace (bound_refused (typed_rest a.room _) (closed_type (a.room - 1)) (drop inner all) rest r))

pub returns-clause-reads : goal.returns-clause-reads
returns-clause-reads c =
    let a = c.args in let all = a.tokens.now.tokens in let ts = drop a.from all in let word = c.after-start.ensures in let brace = c.in-Some.ensures in let inner = c.in-Some.inner in
    let made = c.in_ok-made.made in let r = c.in_ok-made.ensures.reads in
    let lower : 1 < a.room = omega (arith, c.requires.some, c.if-room-eq1.false) in
    carry (Runs (created a.room c.place_at-place.result (Some (type_view made.tree))) (drop made.next all)) (Calls (instruction_goal (instruction a.room)) ts) instr_view all made.next a.from c.created-2.result
    (omega (arith, word.behind, brace.behind, r.forward))
    (λ u d. create_typed c.requires.begins lower word brace (bound (typed_rest a.room _) (closed_type (a.room - 1)) (drop inner all) (drop made.next all) (type_view made.tree) u r.outcome (rw (c.place_at-place.ensures) at d)))
    c.created-2.ensures.reads
