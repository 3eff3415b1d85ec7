use Rattle.std.proofs.Common.{◌≡◌, drop, refl, arith}
use Rattle.eif_tree.specs.Tree.{no_exs}
use Rattle.eif_grammar.specs.Goals.{assertions, conditions, instruction_goal, class_goal}
use Rattle.eif_grammar.specs.Outcomes.{got, Calls}
use Rattle.eif_grammar.specs.Parts.{most_height}
use Rattle.eif_grammar_laws.proofs.Readers.{by_rule, ended}
use Rattle.eif_grammar_laws.proofs.Taken.{tail}
use Rattle.eif_grammar_laws.proofs.Terminals.{on_other}
use Rattle.eif_parse_expr.specs.InstructionSubrules.{assertions_view}
use Rattle.eif_parse_expr.proofs.Steps.{carry, on_here}
use Rattle.eif_parse.proofs.routines.conditions.Goals as goal

pub returns-in_default : goal.returns-in_default
returns-in_default c =
    let a = c.args in let ts = drop a.from a.tokens.now.tokens in
    let none : assertions_view c.new.result ≡ no_exs = rw c.new.ensures.items refl in
    let whole : Calls (class_goal (conditions a.first a.second)) ts (got (assertions_view c.new.result) ts) = rw none (by_rule (on_other c.in_default.ensures ended)) in
    record { outcome = whole; forward = omega arith; within = c.requires.start }

pub returns-in-Some-behind : goal.returns-in-Some-behind
returns-in-Some-behind c =
    let all = c.args.tokens.now.tokens in let first = c.in-Some.ensures in let second = c.in-Some-behind.ensures in let start = c.in-Some-behind.start in
    carry (Calls (instruction_goal (assertions most_height)) (drop start all)) _ assertions_view all start _ _ (omega (arith, first.behind, second.behind))
    (λ o d. by_rule (on_here first (on_here second (tail {g = instruction_goal (assertions most_height)} o d)))) c.assertions.ensures.reads

pub returns-in-None : goal.returns-in-None
returns-in-None c =
    let all = c.args.tokens.now.tokens in let first = c.in-Some.ensures in let start = c.in-Some.start in
    carry (Calls (instruction_goal (assertions most_height)) (drop start all)) _ assertions_view all start _ _ (omega (arith, first.behind))
    (λ o d. by_rule (on_here first (on_other c.in-None.ensures (tail {g = instruction_goal (assertions most_height)} o d)))) c.assertions-in-None.ensures.reads
