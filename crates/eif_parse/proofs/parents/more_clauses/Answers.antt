use Rattle.std.proofs.Common.{◌≡◌, ◌<◌, ◌-◌, true, false, length, drop, ap, ◌∙◌, arith}
use Rattle.std.specs.Prelude.{is_some}
use Rattle.eif_tree.specs.View.{parent_view}
use Rattle.eif_grammar.specs.declared.terminal.Terminal.TheVariants as t
use Rattle.eif_grammar.specs.Forms as form
use Rattle.eif_grammar.specs.Goals.{more_clauses, class_goal}
use Rattle.eif_grammar.specs.Outcomes.{got, refused, Runs, Calls}
use Rattle.eif_grammar.specs.Spelling.{head}
use Rattle.eif_grammar_laws.proofs.Readers.{ended}
use Rattle.eif_parse_expr.proofs.Steps.{relay, relay_token, expect_here, other_here}
use Rattle.eif_parse.specs.ClassSubrules.{clause}
use Rattle.eif_parse.proofs.ParentSteps.{begins_is, one_more_clause, clause_refused, clauses_over, clause_onward}
use Rattle.eif_parse.proofs.parents.more_clauses.Goals as goal

pub returns-in_err-one : goal.returns-in_err-one
returns-in_err-one c =
    let a = c.args in let all = a.tokens.now.tokens in let i = c.clauses.invariant in let ts = drop c.clauses.next all in
    let begins : form.begins_clause (head ts) ≡ true = begins_is c.clause_start.result c.clause_start.ensures c.next_terminal.ensures ∙ ap is_some c.in-Some.is in
    relay (Runs (clause (parent_view c.clauses.tree)) ts) (Calls (class_goal (more_clauses (parent_view a.parent))) (drop a.from all)) parent_view parent_view all c.clauses.next a.from _ _
    c.from_residual.ensures.1 c.in_err-one.ensures i.forward (λ rest r. i.goes_on (refused rest) (clause_refused begins r))

pub clauses-smaller : goal.clauses-smaller
clauses-smaller c =
    let all = c.args.tokens.now.tokens in let one = c.in_ok-one.one in let r = c.in_ok-one.ensures in
    let less : length all - one.next < length all - c.clauses.next = omega (arith, clause_onward all c.clauses.next one.next r.outcome r.within, r.within) in less

pub clauses-preserved : goal.clauses-preserved
clauses-preserved c =
    let all = c.args.tokens.now.tokens in let i = c.clauses.invariant in let r = c.in_ok-one.ensures in
    let begins : form.begins_clause (head (drop c.clauses.next all)) ≡ true = begins_is c.clause_start.result c.clause_start.ensures c.next_terminal.ensures ∙ ap is_some c.in-Some.is in
    record { within = r.within; forward = omega (arith, i.forward, r.forward); goes_on = λ u d. i.goes_on u (one_more_clause u begins r.outcome d) }

pub returns-in_err-next : goal.returns-in_err-next
returns-in_err-next c =
    let a = c.args in let all = a.tokens.now.tokens in let i = c.clauses.invariant in let ts = drop c.clauses.next all in
    let none : form.begins_clause (head ts) ≡ false = begins_is c.clause_start.result c.clause_start.ensures c.next_terminal.ensures ∙ ap is_some c.in_default.is in
    relay_token (Calls (class_goal (more_clauses (parent_view a.parent))) (drop a.from all)) parent_view t.End all c.clauses.next a.from _ _
    c.from_residual-in_err-next.ensures.1 c.in_err-next.ensures i.forward i.within (λ other. i.goes_on (refused ts) (clauses_over none (other_here other)))

pub returns : goal.returns
returns c =
    let all = c.args.tokens.now.tokens in let i = c.clauses.invariant in let word = c.in_ok-next.ensures in
    let none : form.begins_clause (head (drop c.clauses.next all)) ≡ false = begins_is c.clause_start.result c.clause_start.ensures c.next_terminal.ensures ∙ ap is_some c.in_default.is in
    record {
      outcome = i.goes_on (got (parent_view c.clauses.tree) (drop c.in_ok-next.next all)) (clauses_over none (expect_here word ended));
      forward = omega (arith, i.forward, word.behind);
      within = word.within;
    }
