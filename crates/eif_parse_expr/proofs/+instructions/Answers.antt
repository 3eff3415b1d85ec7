use Rattle.std.proofs.Common.{◌≡◌, ◌-◌, ◌<◌, true, false, drop, length, map, ◌++◌, ◌∷◌, [], ap, ◌∙◌, arith}
use Rattle.std.proofs.lemmas.Grind.{common_steps}
use Rattle.std.specs.Option.{option_map}
use Rattle.eif_tree.specs.Tree.{no_branches, and_branch, no_inss}
use Rattle.eif_tree.specs.View.{expr_view, instr_view, branch_view}
use Rattle.eif_grammar.specs.declared.terminal.Terminal.TheVariants as t
use Rattle.eif_grammar.specs.Forms as form
use Rattle.eif_grammar.specs.Spelling.{head}
use Rattle.eif_grammar.specs.Goals.{expression, compound, instruction, otherwise, invariants, variant, expression_goal, instruction_goal}
use Rattle.eif_grammar.specs.InstructionRules.{instruction_start, by_if, by_from, no_instruction}
use Rattle.eif_grammar.specs.Outcomes.{got, refused, Runs, Calls}
use Rattle.eif_grammar_laws.proofs.Readers.{by_rule, called, call_refused, refuses, ended}
use Rattle.eif_grammar_laws.proofs.Terminals.{on_other}
use Rattle.eif_grammar_laws.proofs.InstructionSteps.{instruction_at}
use Rattle.eif_parse_expr.specs.InstructionSubrules.{branch, branch_list, assertions_view, branches_view, inss_view, otherwise_view}
use Rattle.eif_parse_expr.proofs.Bind.{bound, bound_refused}
use Rattle.eif_parse_expr.proofs.InstructionLists.{and_branch_first, branches_behind-more, branches_behind-last, branches_behind-refused, branches_height-more, and_ins_first, inss_behind-more, inss_behind-end, inss_behind-refused, compound_height-more}
use Rattle.eif_parse_expr.proofs.InstructionSteps.{branch_list_refused, branch_list_last, branch_list_more, choose_rest, conditional_whole, loop_whole, nothing_begins, no_compound, compound_behind, compound_high, compound_refused, compound_more}
use Rattle.eif_parse_expr.proofs.Onward.{instruction_onward}
use Rattle.eif_parse_expr.proofs.Steps.{relay, relay_token, on_here, expect_here, other_here, no_room}
use Rattle.eif_parse_expr.proofs.+instructions.Goals as goal

-- ---- branch

pub branches::branch-returns-in_err-start-clause-reads : goal.branches::branch-returns-in_err-start-clause-reads
branches::branch-returns-in_err-start-clause-reads measure c =
    let a = c.args in let all = a.tokens.now.tokens in let condition = c.in_ok-condition.condition in let r = c.in_ok-condition.ensures.reads in
    relay_token (Runs (branch a.room) (drop a.from all)) branch_view t.Then all condition.next a.from _ _
    c.from_residual-in_err-start.ensures.1 c.in_err-start.ensures r.forward r.within (λ other. called r.outcome (other_here other))

pub branches::branch-returns-in_err-body-clause-reads : goal.branches::branch-returns-in_err-body-clause-reads
branches::branch-returns-in_err-body-clause-reads measure c =
    let a = c.args in let all = a.tokens.now.tokens in let r = c.in_ok-condition.ensures.reads in let start = c.in_ok-start.start in let word = c.in_ok-start.ensures in
    relay (Calls (instruction_goal (compound a.room)) (drop start all)) (Runs (branch a.room) (drop a.from all)) inss_view branch_view all start a.from _ _
    c.from_residual-in_err-body.ensures.1 c.in_err-body.ensures.reads (omega (arith, r.forward, word.behind))
    (λ rest d. called r.outcome (expect_here word (call_refused d)))

pub branches::branch-returns-clause-reads : goal.branches::branch-returns-clause-reads
branches::branch-returns-clause-reads measure c =
    let a = c.args in let all = a.tokens.now.tokens in let r = c.in_ok-condition.ensures.reads in let word = c.in_ok-start.ensures in
    let body = c.in_ok-body.body in let d = c.in_ok-body.ensures.reads in
    let whole : Runs (branch a.room) (drop a.from all) (got (branch_view c.written_branch.result) (drop body.next all)) =
    rw (c.written_branch.ensures) (called r.outcome (expect_here word (called d.outcome ended))) in
    record { outcome = whole; forward = omega (arith, r.forward, word.behind, d.forward); within = d.within }

-- ---- branch_list

pub branches::branch_list-returns-in_err-one-clause-reads : goal.branches::branch_list-returns-in_err-one-clause-reads
branches::branch_list-returns-in_err-one-clause-reads measure c =
    let a = c.args in let all = a.tokens.now.tokens in let i = c.branches.invariant in
    relay (Runs (branch a.room) (drop c.branches.next all)) (Runs (branch_list a.room) (drop a.from all)) branch_view branches_view all c.branches.next a.from _ _
    c.from_residual.ensures.1 c.in_err-one.ensures.reads i.forward
    (λ rest r. rw (branches_behind-refused (map branch_view c.branches.tree.items) rest) at (i.goes_on (refused rest) (branch_list_refused r)))

pub branches::branch_list-returns-in_default-clause-reads : goal.branches::branch_list-returns-in_default-clause-reads
branches::branch_list-returns-in_default-clause-reads measure c =
    let a = c.args in let all = a.tokens.now.tokens in let one = c.in_ok-one.one in let r = c.in_ok-one.ensures.reads in let i = c.branches.invariant in
    let before = map branch_view c.branches.tree.items in let b = branch_view one.tree in
    let pushed : map branch_view c.push.new.self.items ≡ before ++ b ∷ [] = grind (arith, common_steps, c.in_ok-push.ensures.items) in
    let last = i.goes_on (got (and_branch b.0 b.1 no_branches) (drop one.next all)) (branch_list_last r.outcome c.in_default.ensures) in
    let whole : Runs (branch_list a.room) (drop a.from all) (got (branches_view c.push.new.self) (drop one.next all)) =
    rw pushed (rw (branches_behind-last before b (drop one.next all)) at last) in
    record { outcome = whole; forward = omega (arith, r.forward, i.forward); within = r.within }

pub branches::branch_list-returns-in_default-clause-height : goal.branches::branch_list-returns-in_default-clause-height
branches::branch_list-returns-in_default-clause-height measure c =
    let one = c.in_ok-one.one in let before = map branch_view c.branches.tree.items in let b = branch_view one.tree in
    let pushed : map branch_view c.push.new.self.items ≡ before ++ b ∷ [] = grind (arith, common_steps, c.in_ok-push.ensures.items) in
    rw pushed (omega (arith, branches_height-more before b, c.max-height.ensures, c.in_ok-one.ensures.height, c.branches.invariant.height))

pub branches::branch_list-branches-preserved : goal.branches::branch_list-branches-preserved
branches::branch_list-branches-preserved measure c =
    let a = c.args in let all = a.tokens.now.tokens in let one = c.in_ok-one.one in let r = c.in_ok-one.ensures.reads in let i = c.branches.invariant in
    let before = map branch_view c.branches.tree.items in let b = branch_view one.tree in
    let pushed : map branch_view c.push.new.self.items ≡ before ++ b ∷ [] = grind (arith, common_steps, c.in_ok-push.ensures.items) in
    let word = c.in-Some.ensures in
    record {
      within = word.within;
      forward = omega (arith, r.forward, i.forward, word.behind);
      low = omega (arith, c.max-height.ensures, c.in_ok-one.ensures.low, i.low);
      height = rw pushed (omega (arith, branches_height-more before b, c.max-height.ensures, c.in_ok-one.ensures.height, i.height));
      goes_on = λ u d. rw pushed (rw (branches_behind-more before b u) at (i.goes_on (and_branch_first b u) (branch_list_more u r.outcome word d)));
    }

-- ---- conditional

pub branches::conditional-returns-then-room-eq1-clause-reads : goal.branches::conditional-returns-then-room-eq1-clause-reads
branches::conditional-returns-then-room-eq1-clause-reads measure c =
    let a = c.args in let ts = drop a.from a.tokens.now.tokens in
    record { outcome = instruction_at a.room ts (refused ts) by_if (ap instruction_start c.requires.begins) (no_room 1 a.room (omega arith)); forward = omega arith; within = c.requires.start }

pub branches::conditional-returns-in_err-all-clause-reads : goal.branches::conditional-returns-in_err-all-clause-reads
branches::conditional-returns-in_err-all-clause-reads measure c =
    let a = c.args in let all = a.tokens.now.tokens in let word = c.after.ensures in let start = c.after.result in
    let lower : 1 < a.room = omega (arith, c.requires.some, c.if-room-eq1.false) in
    relay (Runs (branch_list (a.room - 1)) (drop start all)) (Calls (instruction_goal (instruction a.room)) (drop a.from all)) branches_view instr_view all start a.from _ _
    c.from_residual.ensures.1 c.in_err-all.ensures.reads (omega (arith, word.behind))
    (λ rest r. conditional_whole c.requires.begins lower word (bound_refused (choose_rest a.room) (branch_list (a.room - 1)) (drop start all) rest r))

pub branches::conditional-returns-in_err-last-clause-reads : goal.branches::conditional-returns-in_err-last-clause-reads
branches::conditional-returns-in_err-last-clause-reads measure c =
    let a = c.args in let all = a.tokens.now.tokens in let word = c.after.ensures in let start = c.after.result in let bs = c.in_ok-all.all in let r = c.in_ok-all.ensures.reads in
    let lower : 1 < a.room = omega (arith, c.requires.some, c.if-room-eq1.false) in
    relay (Calls (instruction_goal (otherwise (a.room - 1))) (drop bs.next all)) (Calls (instruction_goal (instruction a.room)) (drop a.from all)) otherwise_view instr_view all bs.next a.from _ _
    c.from_residual-in_err-last.ensures.1 c.in_err-last.ensures.reads (omega (arith, word.behind, r.forward))
    (λ rest d. conditional_whole c.requires.begins lower word
    (bound (choose_rest a.room) (branch_list (a.room - 1)) (drop start all) (drop bs.next all) (branches_view bs.tree) (refused rest) r.outcome (call_refused d)))

pub branches::conditional-returns-in_err-next-clause-reads : goal.branches::conditional-returns-in_err-next-clause-reads
branches::conditional-returns-in_err-next-clause-reads measure c =
    let a = c.args in let all = a.tokens.now.tokens in let word = c.after.ensures in let start = c.after.result in let bs = c.in_ok-all.all in let r = c.in_ok-all.ensures.reads in
    let last = c.in_ok-last.last in let d = c.in_ok-last.ensures.reads in
    let lower : 1 < a.room = omega (arith, c.requires.some, c.if-room-eq1.false) in
    relay_token (Calls (instruction_goal (instruction a.room)) (drop a.from all)) instr_view t.End all last.next a.from _ _
    c.from_residual-in_err-next.ensures.1 c.in_err-next.ensures (omega (arith, word.behind, r.forward, d.forward)) d.within
    (λ other. conditional_whole c.requires.begins lower word
    (bound (choose_rest a.room) (branch_list (a.room - 1)) (drop start all) (drop bs.next all) (branches_view bs.tree) (refused (drop last.next all)) r.outcome (called d.outcome (other_here other))))

pub branches::conditional-returns-clause-reads : goal.branches::conditional-returns-clause-reads
branches::conditional-returns-clause-reads measure c =
    let a = c.args in let all = a.tokens.now.tokens in let word = c.after.ensures in let start = c.after.result in let bs = c.in_ok-all.all in let r = c.in_ok-all.ensures.reads in
    let d = c.in_ok-last.ensures.reads in let close = c.in_ok-next.ensures in
    let lower : 1 < a.room = omega (arith, c.requires.some, c.if-room-eq1.false) in
    let whole : Calls (instruction_goal (instruction a.room)) (drop a.from all) (got (instr_view c.choose.result) (drop c.in_ok-next.next all)) =
    rw (c.choose.ensures) (conditional_whole c.requires.begins lower word
    (bound (choose_rest a.room) (branch_list (a.room - 1)) (drop start all) (drop bs.next all) (branches_view bs.tree) (got _ (drop c.in_ok-next.next all)) r.outcome (called d.outcome (expect_here close ended)))) in
    record { outcome = whole; forward = omega (arith, word.behind, r.forward, d.forward, close.behind); within = close.within }

-- ---- otherwise

pub branches::otherwise-returns-in_default-clause-reads : goal.branches::otherwise-returns-in_default-clause-reads
branches::otherwise-returns-in_default-clause-reads measure c =
    record { outcome = by_rule (on_other c.in_default.ensures ended); forward = omega arith; within = c.requires.start }

pub branches::otherwise-returns-in_err-body-clause-reads : goal.branches::otherwise-returns-in_err-body-clause-reads
branches::otherwise-returns-in_err-body-clause-reads measure c =
    let a = c.args in let all = a.tokens.now.tokens in let word = c.in-Some.ensures in let start = c.in-Some.start in
    relay (Calls (instruction_goal (compound a.room)) (drop start all)) (Calls (instruction_goal (otherwise a.room)) (drop a.from all)) inss_view otherwise_view all start a.from _ _
    c.from_residual.ensures.1 c.in_err-body.ensures.reads (omega (arith, word.behind)) (λ rest d. by_rule (on_here word (call_refused d)))

pub branches::otherwise-returns-clause-reads : goal.branches::otherwise-returns-clause-reads
branches::otherwise-returns-clause-reads measure c =
    let word = c.in-Some.ensures in let d = c.in_ok-body.ensures.reads in
    record { outcome = by_rule (on_here word (called d.outcome ended)); forward = omega (arith, word.behind, d.forward); within = d.within }

-- ---- compound

pub compounds::compound-instructions-preserved-in-Some : goal.compounds::compound-instructions-preserved-in-Some
compounds::compound-instructions-preserved-in-Some measure c =
    let i = c.instructions.invariant in let semicolon = c.in-Some.ensures in
    record {
      within = semicolon.within;
      forward = omega (arith, i.forward, semicolon.behind);
      low = i.low;
      height = i.height;
      goes_on = λ u d. i.goes_on u (compound_behind u semicolon d);
    }

pub compounds::compound-returns-then-not-begins_instruction-clause-reads : goal.compounds::compound-returns-then-not-begins_instruction-clause-reads
compounds::compound-returns-then-not-begins_instruction-clause-reads measure c =
    let a = c.args in let all = a.tokens.now.tokens in let i = c.instructions.invariant in let ts = drop c.instructions.next all in
    let before = map instr_view c.instructions.tree.items in
    let none : form.begins_instruction (head ts) ≡ false = cc (c.next_terminal.ensures, c.begins_instruction.ensures, c.if-not-begins_instruction.true) in
    let whole : Calls (instruction_goal (compound a.room)) (drop a.from all) (got (inss_view c.instructions.tree) ts) =
    rw (inss_behind-end before ts) at (i.goes_on (got no_inss ts) (no_compound c.in_default.ensures none)) in
    record { outcome = whole; forward = i.forward; within = i.within }

pub compounds::compound-returns-then-room-eq0-clause-reads : goal.compounds::compound-returns-then-room-eq0-clause-reads
compounds::compound-returns-then-room-eq0-clause-reads measure c =
    let a = c.args in let all = a.tokens.now.tokens in let i = c.instructions.invariant in let ts = drop c.instructions.next all in
    let before = map instr_view c.instructions.tree.items in
    let begins : form.begins_instruction (head ts) ≡ true = cc (c.next_terminal.ensures, c.begins_instruction.ensures, c.if-not-begins_instruction.false) in
    let whole : Calls (instruction_goal (compound a.room)) (drop a.from all) (refused ts) =
    rw (inss_behind-refused before ts) at (i.goes_on (refused ts) (compound_high c.in_default.ensures begins (omega (arith, c.if-room-eq0.true)))) in
    record { outcome = whole; forward = i.forward; within = i.within }

pub compounds::compound-returns-in_err-one-clause-reads : goal.compounds::compound-returns-in_err-one-clause-reads
compounds::compound-returns-in_err-one-clause-reads measure c =
    let a = c.args in let all = a.tokens.now.tokens in let i = c.instructions.invariant in let ts = drop c.instructions.next all in
    let before = map instr_view c.instructions.tree.items in
    let begins : form.begins_instruction (head ts) ≡ true = cc (c.next_terminal.ensures, c.begins_instruction.ensures, c.if-not-begins_instruction.false) in
    let lower : 0 < a.room = omega (arith, c.if-room-eq0.false) in
    relay (Calls (instruction_goal (instruction a.room)) ts) (Calls (instruction_goal (compound a.room)) (drop a.from all)) instr_view inss_view all c.instructions.next a.from _ _
    c.from_residual.ensures.1 c.in_err-one.ensures.reads i.forward
    (λ rest r. rw (inss_behind-refused before rest) at (i.goes_on (refused rest) (compound_refused c.in_default.ensures begins lower r)))

pub compounds::compound-instructions-smaller : goal.compounds::compound-instructions-smaller
compounds::compound-instructions-smaller measure c =
    let all = c.args.tokens.now.tokens in let one = c.in_ok-one.one in let r = c.in_ok-one.ensures.reads in
    let less : length all - one.next < length all - c.instructions.next = omega (arith, instruction_onward all c.instructions.next one.next r.outcome r.within, r.within) in less

pub compounds::compound-instructions-preserved : goal.compounds::compound-instructions-preserved
compounds::compound-instructions-preserved measure c =
    let a = c.args in let all = a.tokens.now.tokens in let one = c.in_ok-one.one in let r = c.in_ok-one.ensures.reads in let i = c.instructions.invariant in
    let ts = drop c.instructions.next all in let before = map instr_view c.instructions.tree.items in
    let pushed : map instr_view c.push.new.self.items ≡ before ++ instr_view one.tree ∷ [] = grind (arith, common_steps, c.in_ok-push.ensures.items) in
    let begins : form.begins_instruction (head ts) ≡ true = cc (c.next_terminal.ensures, c.begins_instruction.ensures, c.if-not-begins_instruction.false) in
    let lower : 0 < a.room = omega (arith, c.if-room-eq0.false) in
    record {
      within = r.within;
      forward = omega (arith, r.forward, i.forward);
      low = omega (arith, c.max-height.ensures, c.in_ok-one.ensures.low, i.low);
      height = rw pushed (omega (arith, compound_height-more before (instr_view one.tree), c.max-height.ensures, c.in_ok-one.ensures.height, i.height));
      goes_on = λ u d. rw pushed (rw (inss_behind-more before (instr_view one.tree) u) at (i.goes_on (and_ins_first (instr_view one.tree) u)
          (compound_more u c.in_default.ensures begins lower r.outcome d)));
    }

-- ---- instruction

pub instructions::instruction-returns-in_default : goal.instructions::instruction-returns-in_default
instructions::instruction-returns-in_default measure c =
    let a = c.args in let ts = drop a.from a.tokens.now.tokens in let same = c.next_terminal.ensures in let not = c.in_default in
    let none : instruction_start (head ts) ≡ no_instruction =
    nothing_begins (head ts) (λ e. not.not-Identifier (same ∙ e)) (λ e. not.not-Result (same ∙ e)) (λ e. not.not-Precursor (same ∙ e)) (λ e. not.not-Current (same ∙ e))
    (λ e. not.not-Create (same ∙ e)) (λ e. not.not-If (same ∙ e)) (λ e. not.not-From (same ∙ e)) (λ e. not.not-Check (same ∙ e)) in
    record { reads = record { outcome = instruction_at a.room ts (refused ts) no_instruction none refuses; forward = omega arith; within = c.requires.start }; height = tt; low = tt }

-- ---- repeated

pub loops::repeated-returns-then-room-eq1-clause-reads : goal.loops::repeated-returns-then-room-eq1-clause-reads
loops::repeated-returns-then-room-eq1-clause-reads measure c =
    let a = c.args in let ts = drop a.from a.tokens.now.tokens in
    record { outcome = instruction_at a.room ts (refused ts) by_from (ap instruction_start c.requires.begins) (no_room 1 a.room (omega arith)); forward = omega arith; within = c.requires.start }

pub loops::repeated-returns-in_err-start-clause-reads : goal.loops::repeated-returns-in_err-start-clause-reads
loops::repeated-returns-in_err-start-clause-reads measure c =
    let a = c.args in let all = a.tokens.now.tokens in let word = c.after.ensures in
    let lower : 1 < a.room = omega (arith, c.requires.some, c.if-room-eq1.false) in
    relay (Calls (instruction_goal (compound (a.room - 1))) (drop c.after.result all)) (Calls (instruction_goal (instruction a.room)) (drop a.from all)) inss_view instr_view all c.after.result a.from _ _
    c.from_residual.ensures.1 c.in_err-start.ensures.reads (omega (arith, word.behind)) (λ rest d. loop_whole c.requires.begins lower word (call_refused d))

pub loops::repeated-returns-in_err-claims-clause-reads : goal.loops::repeated-returns-in_err-claims-clause-reads
loops::repeated-returns-in_err-claims-clause-reads measure c =
    let a = c.args in let all = a.tokens.now.tokens in let word = c.after.ensures in let start = c.in_ok-start.start in let r1 = c.in_ok-start.ensures.reads in
    let lower : 1 < a.room = omega (arith, c.requires.some, c.if-room-eq1.false) in
    relay (Calls (instruction_goal (invariants (a.room - 1))) (drop start.next all)) (Calls (instruction_goal (instruction a.room)) (drop a.from all)) assertions_view instr_view all start.next a.from _ _
    c.from_residual-in_err-claims.ensures.1 c.in_err-claims.ensures.reads (omega (arith, word.behind, r1.forward))
    (λ rest d. loop_whole c.requires.begins lower word (called r1.outcome (call_refused d)))

pub loops::repeated-returns-in_err-until-clause-reads : goal.loops::repeated-returns-in_err-until-clause-reads
loops::repeated-returns-in_err-until-clause-reads measure c =
    let a = c.args in let all = a.tokens.now.tokens in let word = c.after.ensures in let r1 = c.in_ok-start.ensures.reads in
    let claims = c.in_ok-claims.claims in let r2 = c.in_ok-claims.ensures.reads in
    let lower : 1 < a.room = omega (arith, c.requires.some, c.if-room-eq1.false) in
    relay_token (Calls (instruction_goal (instruction a.room)) (drop a.from all)) instr_view t.Until all claims.next a.from _ _
    c.from_residual-in_err-until.ensures.1 c.in_err-until.ensures (omega (arith, word.behind, r1.forward, r2.forward)) r2.within
    (λ other. loop_whole c.requires.begins lower word (called r1.outcome (called r2.outcome (other_here other))))

pub loops::repeated-returns-in_err-exit-clause-reads : goal.loops::repeated-returns-in_err-exit-clause-reads
loops::repeated-returns-in_err-exit-clause-reads measure c =
    let a = c.args in let all = a.tokens.now.tokens in let word = c.after.ensures in let r1 = c.in_ok-start.ensures.reads in let r2 = c.in_ok-claims.ensures.reads in
    let start = c.in_ok-until.until in let until = c.in_ok-until.ensures in
    let lower : 1 < a.room = omega (arith, c.requires.some, c.if-room-eq1.false) in
    relay (Calls (expression_goal (expression (a.room - 1) 1)) (drop start all)) (Calls (instruction_goal (instruction a.room)) (drop a.from all)) expr_view instr_view all start a.from _ _
    c.from_residual-in_err-exit.ensures.1 c.in_err-exit.ensures.reads (omega (arith, word.behind, r1.forward, r2.forward, until.behind))
    (λ rest d. loop_whole c.requires.begins lower word (called r1.outcome (called r2.outcome (expect_here until (call_refused d)))))

pub loops::repeated-returns-in_err-inner-clause-reads : goal.loops::repeated-returns-in_err-inner-clause-reads
loops::repeated-returns-in_err-inner-clause-reads measure c =
    let a = c.args in let all = a.tokens.now.tokens in let word = c.after.ensures in let r1 = c.in_ok-start.ensures.reads in let r2 = c.in_ok-claims.ensures.reads in
    let until = c.in_ok-until.ensures in let exit = c.in_ok-exit.exit in let r3 = c.in_ok-exit.ensures.reads in
    let lower : 1 < a.room = omega (arith, c.requires.some, c.if-room-eq1.false) in
    relay_token (Calls (instruction_goal (instruction a.room)) (drop a.from all)) instr_view t.Loop all exit.next a.from _ _
    c.from_residual-in_err-inner.ensures.1 c.in_err-inner.ensures (omega (arith, word.behind, r1.forward, r2.forward, until.behind, r3.forward)) r3.within
    (λ other. loop_whole c.requires.begins lower word (called r1.outcome (called r2.outcome (expect_here until (called r3.outcome (other_here other))))))

pub loops::repeated-returns-in_err-body-clause-reads : goal.loops::repeated-returns-in_err-body-clause-reads
loops::repeated-returns-in_err-body-clause-reads measure c =
    let a = c.args in let all = a.tokens.now.tokens in let word = c.after.ensures in let r1 = c.in_ok-start.ensures.reads in let r2 = c.in_ok-claims.ensures.reads in
    let until = c.in_ok-until.ensures in let r3 = c.in_ok-exit.ensures.reads in let start = c.in_ok-inner.inner in let inner = c.in_ok-inner.ensures in
    let lower : 1 < a.room = omega (arith, c.requires.some, c.if-room-eq1.false) in
    relay (Calls (instruction_goal (compound (a.room - 1))) (drop start all)) (Calls (instruction_goal (instruction a.room)) (drop a.from all)) inss_view instr_view all start a.from _ _
    c.from_residual-in_err-body.ensures.1 c.in_err-body.ensures.reads (omega (arith, word.behind, r1.forward, r2.forward, until.behind, r3.forward, inner.behind))
    (λ rest d. loop_whole c.requires.begins lower word (called r1.outcome (called r2.outcome (expect_here until (called r3.outcome (expect_here inner (call_refused d)))))))

pub loops::repeated-returns-in_err-bound-clause-reads : goal.loops::repeated-returns-in_err-bound-clause-reads
loops::repeated-returns-in_err-bound-clause-reads measure c =
    let a = c.args in let all = a.tokens.now.tokens in let word = c.after.ensures in let r1 = c.in_ok-start.ensures.reads in let r2 = c.in_ok-claims.ensures.reads in
    let until = c.in_ok-until.ensures in let r3 = c.in_ok-exit.ensures.reads in let inner = c.in_ok-inner.ensures in
    let body = c.in_ok-body.body in let r4 = c.in_ok-body.ensures.reads in
    let lower : 1 < a.room = omega (arith, c.requires.some, c.if-room-eq1.false) in
    relay (Calls (instruction_goal (variant (a.room - 1))) (drop body.next all)) (Calls (instruction_goal (instruction a.room)) (drop a.from all)) (option_map expr_view) instr_view all body.next a.from _ _
    c.from_residual-in_err-bound.ensures.1 c.in_err-bound.ensures.reads (omega (arith, word.behind, r1.forward, r2.forward, until.behind, r3.forward, inner.behind, r4.forward))
    (λ rest d. loop_whole c.requires.begins lower word
    (called r1.outcome (called r2.outcome (expect_here until (called r3.outcome (expect_here inner (called r4.outcome (call_refused d))))))))

pub loops::repeated-returns-in_err-next-clause-reads : goal.loops::repeated-returns-in_err-next-clause-reads
loops::repeated-returns-in_err-next-clause-reads measure c =
    let a = c.args in let all = a.tokens.now.tokens in let word = c.after.ensures in let r1 = c.in_ok-start.ensures.reads in let r2 = c.in_ok-claims.ensures.reads in
    let until = c.in_ok-until.ensures in let r3 = c.in_ok-exit.ensures.reads in let inner = c.in_ok-inner.ensures in let r4 = c.in_ok-body.ensures.reads in
    let last = c.in_ok-bound.bound in let r5 = c.in_ok-bound.ensures.reads in
    let lower : 1 < a.room = omega (arith, c.requires.some, c.if-room-eq1.false) in
    relay_token (Calls (instruction_goal (instruction a.room)) (drop a.from all)) instr_view t.End all last.next a.from _ _
    c.from_residual-in_err-next.ensures.1 c.in_err-next.ensures (omega (arith, word.behind, r1.forward, r2.forward, until.behind, r3.forward, inner.behind, r4.forward, r5.forward)) r5.within
    (λ other. loop_whole c.requires.begins lower word
    (called r1.outcome (called r2.outcome (expect_here until (called r3.outcome (expect_here inner (called r4.outcome (called r5.outcome (other_here other)))))))))

pub loops::repeated-returns-clause-reads : goal.loops::repeated-returns-clause-reads
loops::repeated-returns-clause-reads measure c =
    let a = c.args in let all = a.tokens.now.tokens in let word = c.after.ensures in let r1 = c.in_ok-start.ensures.reads in let r2 = c.in_ok-claims.ensures.reads in
    let until = c.in_ok-until.ensures in let r3 = c.in_ok-exit.ensures.reads in let inner = c.in_ok-inner.ensures in let r4 = c.in_ok-body.ensures.reads in
    let r5 = c.in_ok-bound.ensures.reads in let close = c.in_ok-next.ensures in
    let lower : 1 < a.room = omega (arith, c.requires.some, c.if-room-eq1.false) in
    let whole : Calls (instruction_goal (instruction a.room)) (drop a.from all) (got (instr_view c.written_loop.result) (drop c.in_ok-next.next all)) =
    rw (c.written_loop.ensures) (loop_whole c.requires.begins lower word
    (called r1.outcome (called r2.outcome (expect_here until (called r3.outcome (expect_here inner (called r4.outcome (called r5.outcome (expect_here close ended))))))))) in
    record {
      outcome = whole;
      forward = omega (arith, word.behind, r1.forward, r2.forward, until.behind, r3.forward, inner.behind, r4.forward, r5.forward, close.behind);
      within = close.within;
    }
