use Rattle.std.proofs.Common.{Some, drop, arith}
use Rattle.eif_grammar.specs.declared.terminal.Terminal.TheVariants as t
use Rattle.eif_grammar.specs.Outcomes.{got, Runs}
use Rattle.eif_grammar_laws.proofs.Readers.{called, ended}
use Rattle.eif_parse_expr.specs.Subrules.{parent_name}
use Rattle.eif_parse_expr.proofs.Steps.{relay_name, relay_token, on_here, token_here, expect_here, other_here}
use Rattle.eif_parse_expr.proofs.chains.parent_name.Goals as goal

pub returns-in_err-name : goal.returns-in_err-name
returns-in_err-name c =
    let a = c.args in let all = a.tokens.now.tokens in let ts = drop a.from all in let brace = c.in-Some.ensures in
    relay_name (Runs parent_name ts) (λ n. n) all c.in-Some.start a.from _ _ c.from_residual.ensures.1 c.in_err-name.ensures
    (omega (arith, brace.behind)) brace.within (λ other. on_here brace (other_here other))

pub returns-in_err-next : goal.returns-in_err-next
returns-in_err-next c =
    let a = c.args in let all = a.tokens.now.tokens in let ts = drop a.from all in let brace = c.in-Some.ensures in
    let n = c.in_ok-name.name in let name = c.in_ok-name.ensures.0 in
    relay_token (Runs parent_name ts) (λ n. n) t.CloseBrace all n.next a.from _ _ c.from_residual-in_err-next.ensures.1 c.in_err-next.ensures
    (omega (arith, brace.behind, name.behind)) name.within (λ other. on_here brace (called (token_here name) (other_here other)))

pub returns : goal.returns
returns c =
    let a = c.args in let all = a.tokens.now.tokens in let ts = drop a.from all in let brace = c.in-Some.ensures in
    let n = c.in_ok-name.name in let name = c.in_ok-name.ensures.0 in let close = c.in_ok-next.ensures in
    let whole : Runs parent_name ts (got (Some n.tree) (drop c.in_ok-next.next all)) =
    rw (c.in_ok-name.ensures.1) (on_here brace (called (token_here name) (expect_here close ended))) in
    record { outcome = whole; forward = omega (arith, brace.behind, name.behind, close.behind); within = close.within }
