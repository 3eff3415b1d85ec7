use Rattle.std.proofs.Common.{drop, arith}
use Rattle.eif_tree.specs.View.{type_view}
use Rattle.eif_grammar.specs.declared.terminal.Terminal.TheVariants as t
use Rattle.eif_grammar.specs.Goals.{written, type_goal}
use Rattle.eif_grammar.specs.Outcomes.{Runs, Calls}
use Rattle.eif_grammar_laws.proofs.Readers.{called, call_refused, ended}
use Rattle.eif_parse_expr.specs.Subrules.{closed_type}
use Rattle.eif_parse_expr.proofs.Steps.{relay, relay_token, expect_here, other_here}
use Rattle.eif_parse_expr.proofs.types.closed_type.Goals as goal

pub returns-in_err-inner-clause-reads : goal.returns-in_err-inner-clause-reads
returns-in_err-inner-clause-reads c =
    let a = c.args in let all = a.tokens.now.tokens in let ts = drop a.from all in
    relay (Calls (type_goal (written a.room)) ts) (Runs (closed_type a.room) ts) type_view type_view all a.from a.from _ _
    c.from_residual.ensures.1 c.in_err-inner.ensures.reads (omega arith) (λ rest r. call_refused r)

pub returns-in_err-next-clause-reads : goal.returns-in_err-next-clause-reads
returns-in_err-next-clause-reads c =
    let a = c.args in let all = a.tokens.now.tokens in let ts = drop a.from all in let inner = c.in_ok-inner.inner in let r = c.in_ok-inner.ensures.reads in
    relay_token (Runs (closed_type a.room) ts) type_view t.CloseBrace all inner.next a.from _ _
    c.from_residual-in_err-next.ensures.1 c.in_err-next.ensures r.forward r.within (λ other. called r.outcome (other_here other))

pub returns-clause-reads : goal.returns-clause-reads
returns-clause-reads c =
    let r = c.in_ok-inner.ensures.reads in let close = c.in_ok-next.ensures in
    record { outcome = called r.outcome (expect_here close ended); forward = omega (arith, r.forward, close.behind); within = close.within }
