use Rattle.std.proofs.Common.{drop, arith}
use Rattle.eif_grammar.specs.Outcomes.{got}
use Rattle.eif_parse_expr.proofs.InstructionSteps.{no_semis, more_semis}
use Rattle.eif_parse_expr.proofs.claims.semis.Goals as goal

pub semicolons-init : goal.semicolons-init
semicolons-init c = record { within = c.requires; forward = omega arith; goes_on = λ u d. d }

pub semicolons-preserved : goal.semicolons-preserved
semicolons-preserved c =
    let i = c.semicolons.invariant in let semicolon = c.in-Some.ensures in
    record { within = semicolon.within; forward = omega (arith, i.forward, semicolon.behind); goes_on = λ u d. i.goes_on u (more_semis u semicolon d) }

pub returns : goal.returns
returns c =
    let i = c.semicolons.invariant in
    record { outcome = i.goes_on (got tt (drop c.semicolons.next c.args.tokens.now.tokens)) (no_semis c.in_default.ensures); forward = i.forward; within = i.within }
