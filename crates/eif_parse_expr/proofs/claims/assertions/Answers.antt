use Rattle.std.proofs.Common.{◌≡◌, ◌<◌, ◌-◌, true, false, length, map, ◌++◌, ◌∷◌, [], drop, arith}
use Rattle.std.proofs.lemmas.Grind.{common_steps}
use Rattle.eif_tree.specs.Tree.{no_exs}
use Rattle.eif_tree.specs.View.{expr_view, assertion_view}
use Rattle.eif_grammar.specs.Forms as form
use Rattle.eif_grammar.specs.Goals.{assertion, assertions, instruction_goal}
use Rattle.eif_grammar.specs.Outcomes.{got, refused, Calls}
use Rattle.eif_grammar.specs.Spelling.{head}
use Rattle.eif_parse_expr.specs.InstructionSubrules.{assertions_view}
use Rattle.eif_parse_expr.proofs.InstructionLists.{exs_behind-end}
use Rattle.eif_parse_expr.proofs.InstructionSteps.{no_assertions, assertions_high, assertions_refused, assertions_more}
use Rattle.eif_parse_expr.proofs.Lists.{and_ex_first, exs_behind-more, exs_behind-refused, heights-more}
use Rattle.eif_parse_expr.proofs.Onward.{assertion_onward}
use Rattle.eif_parse_expr.proofs.Steps.{relay}
use Rattle.eif_parse_expr.proofs.claims.assertions.Goals as goal

pub returns-then-room-eq0-clause-reads : goal.returns-then-room-eq0-clause-reads
returns-then-room-eq0-clause-reads c =
    let a = c.args in let all = a.tokens.now.tokens in let i = c.claims.invariant in let ts = drop c.claims.next all in
    let before = map assertion_view c.claims.tree.items in
    let begins : form.begins_expression (head ts) ≡ true = cc (c.next_terminal.ensures, c.begins_expression.ensures, c.claims-test.true) in
    let whole : Calls (instruction_goal (assertions a.room)) (drop a.from all) (refused ts) =
    rw (exs_behind-refused before ts) at (i.goes_on (refused ts) (assertions_high begins (omega (arith, c.if-room-eq0.true)))) in
    record { outcome = whole; forward = i.forward; within = i.within }

pub returns-in_err-one-clause-reads : goal.returns-in_err-one-clause-reads
returns-in_err-one-clause-reads c =
    let a = c.args in let all = a.tokens.now.tokens in let i = c.claims.invariant in let ts = drop c.claims.next all in
    let before = map assertion_view c.claims.tree.items in
    let begins : form.begins_expression (head ts) ≡ true = cc (c.next_terminal.ensures, c.begins_expression.ensures, c.claims-test.true) in
    let lower : 0 < a.room = omega (arith, c.if-room-eq0.false) in
    relay (Calls (instruction_goal (assertion a.room)) ts) (Calls (instruction_goal (assertions a.room)) (drop a.from all)) expr_view assertions_view all c.claims.next a.from _ _
    c.from_residual.ensures.1 c.in_err-one.ensures.reads i.forward
    (λ rest r. rw (exs_behind-refused before rest) at (i.goes_on (refused rest) (assertions_refused begins lower r)))

pub claims-smaller : goal.claims-smaller
claims-smaller c =
    let all = c.args.tokens.now.tokens in let one = c.in_ok-one.one in let r = c.in_ok-one.ensures.reads in let s = c.semis-next.ensures in
    let less : length all - c.semis-next.result < length all - c.claims.next =
    omega (arith, assertion_onward all c.claims.next one.next r.outcome r.within, r.within, s.forward, s.within) in less

pub claims-preserved : goal.claims-preserved
claims-preserved c =
    let a = c.args in let all = a.tokens.now.tokens in let one = c.in_ok-one.one in let r = c.in_ok-one.ensures.reads in let s = c.semis-next.ensures in let i = c.claims.invariant in
    let ts = drop c.claims.next all in let before = map assertion_view c.claims.tree.items in let e = expr_view one.tree in
    let pushed : map assertion_view c.push.new.self.items ≡ before ++ e ∷ [] = grind (arith, common_steps, c.in_ok-push.ensures.items, c.written_assertion.ensures) in
    let begins : form.begins_expression (head ts) ≡ true = cc (c.next_terminal.ensures, c.begins_expression.ensures, c.claims-test.true) in
    let lower : 0 < a.room = omega (arith, c.if-room-eq0.false) in
    record {
      within = s.within;
      forward = omega (arith, r.forward, i.forward, s.forward);
      low = omega (arith, c.max-height.ensures, c.in_ok-one.ensures.low, i.low);
      height = rw pushed (omega (arith, heights-more before e, c.max-height.ensures, c.in_ok-one.ensures.height, i.height));
      goes_on = λ u d. rw pushed (rw (exs_behind-more before e u) at (i.goes_on (and_ex_first e u) (assertions_more u begins lower r.outcome s.outcome d)));
    }

pub returns-clause-reads : goal.returns-clause-reads
returns-clause-reads c =
    let a = c.args in let all = a.tokens.now.tokens in let i = c.claims.invariant in let ts = drop c.claims.next all in
    let before = map assertion_view c.claims.tree.items in
    let none : form.begins_expression (head ts) ≡ false = cc (c.next_terminal.ensures, c.begins_expression.ensures, c.claims-test.false) in
    let whole : Calls (instruction_goal (assertions a.room)) (drop a.from all) (got (assertions_view c.claims.tree) ts) =
    rw (exs_behind-end before ts) at (i.goes_on (got no_exs ts) (no_assertions none)) in
    record { outcome = whole; forward = i.forward; within = i.within }
