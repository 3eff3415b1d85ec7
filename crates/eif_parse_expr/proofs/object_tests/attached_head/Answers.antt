use Rattle.std.proofs.Common.{Some, None, drop, arith}
use Rattle.eif_tree.specs.View.{type_view}
use Rattle.eif_grammar.specs.ExpressionRules.{attached}
use Rattle.eif_grammar.specs.Outcomes.{got, Runs}
use Rattle.eif_grammar_laws.proofs.Readers.{ended}
use Rattle.eif_grammar_laws.proofs.Terminals.{on_other}
use Rattle.eif_parse_expr.specs.Subrules.{test_head, test_head_view, closed_type}
use Rattle.eif_parse_expr.proofs.Bind.{bound, bound_refused}
use Rattle.eif_parse_expr.proofs.ExpressionSteps.{attached_type}
use Rattle.eif_parse_expr.proofs.Steps.{relay, next_here, on_here}
use Rattle.eif_parse_expr.proofs.object_tests.attached_head.Goals as goal

pub returns-in_default-clause-reads : goal.returns-in_default-clause-reads
returns-in_default-clause-reads c =
    let a = c.args in let all = a.tokens.now.tokens in let start = c.after-start.result in
    let whole : Runs (test_head a.room attached) (drop a.from all) (got (record { place = c.place_at-place.result; type_tree = None; local = None }) (drop start all)) =
    rw (c.place_at-place.ensures) (next_here c.after-start.ensures (on_other c.in_default.ensures ended)) in
    record { outcome = whole; forward = omega (arith, c.after-start.ensures.behind); within = c.after-start.ensures.within }

pub returns-in_err-type_tree-clause-reads : goal.returns-in_err-type_tree-clause-reads
returns-in_err-type_tree-clause-reads c =
    let a = c.args in let all = a.tokens.now.tokens in let ts = drop a.from all in let inner = c.in-Some.inner in
    relay (Runs (closed_type a.room) (drop inner all)) (Runs (test_head a.room attached) ts) type_view test_head_view all inner a.from _ _
    c.from_residual.ensures.1 c.in_err-type_tree.ensures.reads (omega (arith, c.after-start.ensures.behind, c.in-Some.ensures.behind))
    (λ rest r. next_here c.after-start.ensures (on_here c.in-Some.ensures (bound_refused (attached_type _) (closed_type a.room) (drop inner all) rest r)))

pub returns-clause-reads : goal.returns-clause-reads
returns-clause-reads c =
    let a = c.args in let all = a.tokens.now.tokens in let ts = drop a.from all in let inner = c.in-Some.inner in
    let ty = c.in_ok-type_tree.type_tree in let r = c.in_ok-type_tree.ensures.reads in
    let whole : Runs (test_head a.room attached) ts (got (record { place = c.place_at-place.result; type_tree = Some (type_view ty.tree); local = None }) (drop ty.next all)) =
    rw (c.place_at-place.ensures) (next_here c.after-start.ensures (on_here c.in-Some.ensures
    (bound (attached_type _) (closed_type a.room) (drop inner all) (drop ty.next all) (type_view ty.tree) _ r.outcome ended))) in
    record { outcome = whole; forward = omega (arith, r.forward, c.after-start.ensures.behind, c.in-Some.ensures.behind); within = r.within }
