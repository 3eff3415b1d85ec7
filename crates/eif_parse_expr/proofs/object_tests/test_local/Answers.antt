use Rattle.std.proofs.Common.{Some, None, drop, arith}
use Rattle.eif_grammar.specs.Outcomes.{got, refused, Runs}
use Rattle.eif_grammar_laws.proofs.Readers.{by_rule, called, ended}
use Rattle.eif_grammar_laws.proofs.Terminals.{on_other}
use Rattle.eif_parse_expr.proofs.ExpressionSteps.{local_found}
use Rattle.eif_parse_expr.specs.Subrules.{local_behind}
use Rattle.eif_parse_expr.proofs.Steps.{relay_name, on_here, token_here, other_here}
use Rattle.eif_parse_expr.proofs.object_tests.test_local.Goals as goal

pub returns-in_default-behind : goal.returns-in_default-behind
returns-in_default-behind c =
    let a = c.args in let ts = drop a.from a.tokens.now.tokens in
    let whole : Runs (local_behind a.named) ts (got None ts) = rw (c.in_default.is) (local_found (got None ts) (by_rule (on_other c.in_default-behind.ensures ended))) in
    record { outcome = whole; forward = omega arith; within = c.requires }

pub returns-in_err-name : goal.returns-in_err-name
returns-in_err-name c =
    let a = c.args in let all = a.tokens.now.tokens in let ts = drop a.from all in let word = c.in-Some-behind.ensures in
    relay_name (Runs (local_behind a.named) ts) (λ n. n) all c.in-Some-behind.start a.from _ _ c.from_residual.ensures.1 c.in_err-name.ensures
    (omega (arith, word.behind)) word.within
    (λ other. rw (c.in_default.is) (local_found (refused (drop c.in-Some-behind.start all)) (by_rule (on_here word (other_here other)))))

pub returns : goal.returns
returns c =
    let a = c.args in let all = a.tokens.now.tokens in let ts = drop a.from all in let word = c.in-Some-behind.ensures in
    let n = c.in_ok-name.name in let name = c.in_ok-name.ensures.0 in
    let whole : Runs (local_behind a.named) ts (got (Some n.tree) (drop n.next all)) =
    rw (c.in_default.is, c.in_ok-name.ensures.1) (local_found (got (Some _) (drop n.next all)) (by_rule (on_here word (called (token_here name) ended)))) in
    record { outcome = whole; forward = omega (arith, word.behind, name.behind); within = name.within }
