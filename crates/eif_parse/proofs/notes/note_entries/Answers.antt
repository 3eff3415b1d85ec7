use Rattle.std.proofs.Common.{drop, arith}
use Rattle.eif_grammar.specs.declared.terminal.Terminal.TheVariants as t
use Rattle.eif_grammar.specs.Goals.{note_entries, class_goal}
use Rattle.eif_grammar.specs.Outcomes.{got, refused, Runs, Calls}
use Rattle.eif_grammar_laws.proofs.Readers.{by_rule, ended}
use Rattle.eif_grammar_laws.proofs.Terminals.{on_other}
use Rattle.eif_parse.specs.ClassSubrules as rule
use Rattle.eif_parse_expr.proofs.Bind.{bound_refused}
use Rattle.eif_parse_expr.proofs.Steps.{relay, relay_token, on_here, expect_here, other_here}
use Rattle.eif_parse.proofs.NoteSteps.{items_rest, one_more_note}
use Rattle.eif_parse.proofs.notes.note_entries.Goals as goal

pub returns-in_err-start : goal.returns-in_err-start
returns-in_err-start c =
    let a = c.args in let all = a.tokens.now.tokens in let i = c.entries.invariant in let name = c.in-Some.ensures in
    relay_token (Calls (class_goal note_entries) (drop a.from all)) (λ x. x) t.Colon all c.in-Some.colon a.from _ _
    c.from_residual.ensures.1 c.in_err-start.ensures (omega (arith, i.forward, name.behind)) name.within
    (λ other. i.goes_on (refused (drop c.in-Some.colon all)) (by_rule (on_here name (other_here other))))

pub returns-in_err-items : goal.returns-in_err-items
returns-in_err-items c =
    let a = c.args in let all = a.tokens.now.tokens in let i = c.entries.invariant in
    let name = c.in-Some.ensures in let colon = c.in_ok-start.ensures in let items = drop c.in_ok-start.start all in
    relay (Runs rule.note_items items) (Calls (class_goal note_entries) (drop a.from all)) (λ x. x) (λ x. x) all c.in_ok-start.start a.from _ _
    c.from_residual-in_err-items.ensures.1 c.in_err-items.ensures (omega (arith, i.forward, name.behind, colon.behind))
    (λ rest r. i.goes_on (refused rest) (by_rule (on_here name (expect_here colon (bound_refused items_rest rule.note_items items rest r)))))

pub entries-preserved : goal.entries-preserved
entries-preserved c =
    let i = c.entries.invariant in let name = c.in-Some.ensures in let colon = c.in_ok-start.ensures in
    let r = c.in_ok-items.ensures in let s = c.semis-next.ensures in
    record {
      within = s.within;
      forward = omega (arith, i.forward, name.behind, colon.behind, r.forward, s.forward);
      goes_on = λ u d. i.goes_on u (one_more_note u name colon r.outcome s.outcome d);
    }

pub returns : goal.returns
returns c =
    let i = c.entries.invariant in
    record {
      outcome = i.goes_on (got tt (drop c.entries.next c.args.tokens.now.tokens)) (by_rule (on_other c.in_default.ensures ended));
      forward = i.forward;
      within = i.within;
    }
