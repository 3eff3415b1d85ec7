use Rattle.std.proofs.Common.{◌≡◌, [], drop, refl, arith}
use Rattle.eif_grammar.specs.Goals.{local_groups, locals, class_goal}
use Rattle.eif_grammar.specs.Outcomes.{got, Calls}
use Rattle.eif_parse_expr.proofs.Steps.{carry}
use Rattle.eif_parse.specs.ClassSubrules.{groups_view}
use Rattle.eif_parse.proofs.GroupSteps.{no_locals, locals_found}
use Rattle.eif_parse.proofs.groups.locals.Goals as goal

pub returns-in-Some : goal.returns-in-Some
returns-in-Some c =
    let a = c.args in let all = a.tokens.now.tokens in let word = c.in-Some.ensures in let start = c.in-Some.start in
    carry (Calls (class_goal local_groups) (drop start all)) (Calls (class_goal locals) (drop a.from all)) groups_view all start a.from c.local_groups.result
    (omega (arith, word.behind)) (λ u d. locals_found u word d) c.local_groups.ensures

pub returns-in-None : goal.returns-in-None
returns-in-None c =
    let a = c.args in let ts = drop a.from a.tokens.now.tokens in
    let none : groups_view c.new.result ≡ [] = rw (c.new.ensures.items) refl in
    let whole : Calls (class_goal locals) ts (got (groups_view c.new.result) ts) = rw none (no_locals c.in-None.ensures) in
    record { outcome = whole; forward = omega arith; within = c.requires }
