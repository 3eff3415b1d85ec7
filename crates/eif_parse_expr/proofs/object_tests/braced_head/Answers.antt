use Rattle.std.proofs.Common.{Some, drop, arith}
use Rattle.eif_tree.specs.View.{type_view}
use Rattle.eif_grammar.specs.declared.terminal.Terminal.TheVariants as t
use Rattle.eif_grammar.specs.ExpressionRules.{braced}
use Rattle.eif_grammar.specs.Outcomes.{got, Runs}
use Rattle.eif_grammar_laws.proofs.Readers.{called, ended}
use Rattle.eif_parse_expr.specs.Subrules.{test_head, test_head_view, closed_type}
use Rattle.eif_parse_expr.proofs.Bind.{bound, bound_refused}
use Rattle.eif_parse_expr.proofs.ExpressionSteps.{braced_test_type}
use Rattle.eif_parse_expr.proofs.Steps.{relay, relay_name, relay_token, next_here, token_here, expect_here, other_here}
use Rattle.eif_parse_expr.proofs.object_tests.braced_head.Goals as goal

pub returns-in_err-local-clause-reads : goal.returns-in_err-local-clause-reads
returns-in_err-local-clause-reads c =
    let a = c.args in let all = a.tokens.now.tokens in let ts = drop a.from all in
    relay_name (Runs (test_head a.room braced) ts) test_head_view all c.after.result a.from _ _ c.from_residual.ensures.1 c.in_err-local.ensures
    (omega (arith, c.after.ensures.behind)) c.after.ensures.within (λ other. next_here c.after.ensures (other_here other))

pub returns-in_err-start-clause-reads : goal.returns-in_err-start-clause-reads
returns-in_err-start-clause-reads c =
    let a = c.args in let all = a.tokens.now.tokens in let ts = drop a.from all in
    let name = c.in_ok-local.ensures.0 in let n = c.in_ok-local.local in
    relay_token (Runs (test_head a.room braced) ts) test_head_view t.Colon all n.next a.from _ _ c.from_residual-in_err-start.ensures.1 c.in_err-start.ensures
    (omega (arith, c.after.ensures.behind, name.behind)) name.within (λ other. next_here c.after.ensures (called (token_here name) (other_here other)))

pub returns-in_err-type_tree-clause-reads : goal.returns-in_err-type_tree-clause-reads
returns-in_err-type_tree-clause-reads c =
    let a = c.args in let all = a.tokens.now.tokens in let ts = drop a.from all in
    let name = c.in_ok-local.ensures.0 in let colon = c.in_ok-start.ensures in let start = c.in_ok-start.start in
    relay (Runs (closed_type a.room) (drop start all)) (Runs (test_head a.room braced) ts) type_view test_head_view all start a.from _ _
    c.from_residual-in_err-type_tree.ensures.1 c.in_err-type_tree.ensures.reads (omega (arith, c.after.ensures.behind, name.behind, colon.behind))
    (λ rest r. next_here c.after.ensures (called (token_here name) (expect_here colon (bound_refused (braced_test_type _ _) (closed_type a.room) (drop start all) rest r))))

pub returns-clause-reads : goal.returns-clause-reads
returns-clause-reads c =
    let a = c.args in let all = a.tokens.now.tokens in let ts = drop a.from all in
    let name = c.in_ok-local.ensures.0 in let n = c.in_ok-local.local in let colon = c.in_ok-start.ensures in let start = c.in_ok-start.start in
    let ty = c.in_ok-type_tree.type_tree in let r = c.in_ok-type_tree.ensures.reads in
    let whole : Runs (test_head a.room braced) ts (got (record { place = c.place_at-place.result; type_tree = Some (type_view ty.tree); local = Some n.tree }) (drop ty.next all)) =
    rw (c.place_at-place.ensures, c.in_ok-local.ensures.1) (next_here c.after.ensures (called (token_here name) (expect_here colon
    (bound (braced_test_type _ _) (closed_type a.room) (drop start all) (drop ty.next all) (type_view ty.tree) _ r.outcome ended)))) in
    record { outcome = whole; forward = omega (arith, r.forward, c.after.ensures.behind, name.behind, colon.behind); within = r.within }
