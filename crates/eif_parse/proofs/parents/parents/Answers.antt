use Rattle.std.proofs.Common.{◌≡◌, [], drop, refl, arith}
use Rattle.eif_grammar.specs.ClassRules.{parents_from}
use Rattle.eif_grammar.specs.Goals.{parents, class_goal}
use Rattle.eif_grammar.specs.Outcomes.{got, Runs, Calls}
use Rattle.eif_grammar_laws.proofs.Readers.{by_rule, ended}
use Rattle.eif_grammar_laws.proofs.Terminals.{on_other}
use Rattle.eif_parse.specs.ClassSubrules.{parents_view}
use Rattle.eif_parse_expr.proofs.Steps.{carry, on_here}
use Rattle.eif_parse.proofs.parents.parents.Goals as goal

pub returns-in-Some : goal.returns-in-Some
returns-in-Some c =
    let a = c.args in let all = a.tokens.now.tokens in let word = c.in-Some.ensures in let start = c.in-Some.start in
    carry (Runs parents_from (drop start all)) (Calls (class_goal parents) (drop a.from all)) parents_view all start a.from c.parent_list.result
    (omega (arith, word.behind)) (λ o r. by_rule (on_here word r)) c.parent_list.ensures

pub returns-in-None : goal.returns-in-None
returns-in-None c =
    let ts = drop c.args.from c.args.tokens.now.tokens in
    let none : parents_view c.new.result ≡ [] = rw (c.new.ensures.items) refl in
    let whole : Calls (class_goal parents) ts (got (parents_view c.new.result) ts) = rw none (by_rule (on_other c.in-None.ensures ended)) in
    record { outcome = whole; forward = omega arith; within = c.requires }
