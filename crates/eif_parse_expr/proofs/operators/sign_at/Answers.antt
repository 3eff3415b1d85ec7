use Rattle.std.proofs.Common.{drop, sym, arith}
use Rattle.eif_grammar.specs.Outcomes.{got, Runs}
use Rattle.eif_parse_expr.specs.Subrules.{sign}
use Rattle.eif_parse_expr.proofs.ExpressionSteps.{sign_alone, sign_both, sign_first}
use Rattle.eif_parse_expr.proofs.operators.sign_at.Goals as goal

pub returns-in_default : goal.returns-in_default
returns-in_default c =
    let a = c.args in let all = a.tokens.now.tokens in
    let whole : Runs (sign a.first) (drop a.at all) (got (record { op = a.first; place = c.place_at-place.result }) (drop c.after-next.result all)) =
    rw (c.place_at-place.ensures) (sign_alone a.first (sym c.in_default.ensures) c.after-next.ensures) in
    record { outcome = whole; forward = omega (arith, c.after-next.ensures.behind); within = c.after-next.ensures.within }

pub returns-in-Some-behind : goal.returns-in-Some-behind
returns-in-Some-behind c =
    let a = c.args in let all = a.tokens.now.tokens in let second = c.in-Some-behind.ensures in
    let whole : Runs (sign a.first) (drop a.at all) (got (record { op = c.in-Some.second.op; place = c.place_at-place.result }) (drop c.in-Some-behind.next all)) =
    rw (c.place_at-place.ensures) (sign_both a.first c.in-Some.second.op c.in-Some.second.terminal (sym c.in-Some.ensures) c.after-next.ensures second) in
    record { outcome = whole; forward = omega (arith, c.after-next.ensures.behind, second.behind); within = second.within }

pub returns-in-None : goal.returns-in-None
returns-in-None c =
    let a = c.args in let all = a.tokens.now.tokens in
    let whole : Runs (sign a.first) (drop a.at all) (got (record { op = a.first; place = c.place_at-place.result }) (drop c.after-next.result all)) =
    rw (c.place_at-place.ensures) (sign_first a.first c.in-Some.second.op c.in-Some.second.terminal (sym c.in-Some.ensures) c.after-next.ensures c.in-None.ensures) in
    record { outcome = whole; forward = omega (arith, c.after-next.ensures.behind); within = c.after-next.ensures.within }
