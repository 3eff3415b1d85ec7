use Rattle.std.proofs.Common.{◌≡◌, drop, refl, arith}
use Rattle.eif_tree.specs.Tree.{no_exs}
use Rattle.eif_grammar.specs.Goals.{assertions, invariants, instruction_goal}
use Rattle.eif_grammar.specs.Outcomes.{got, Calls}
use Rattle.eif_grammar_laws.proofs.Readers.{by_rule, ended}
use Rattle.eif_grammar_laws.proofs.Taken.{tail}
use Rattle.eif_grammar_laws.proofs.Terminals.{on_other}
use Rattle.eif_parse_expr.specs.InstructionSubrules.{assertions_view}
use Rattle.eif_parse_expr.proofs.Steps.{carry, on_here}
use Rattle.eif_parse_expr.proofs.claims.invariants.Goals as goal

pub returns-in_default-clause-reads : goal.returns-in_default-clause-reads
returns-in_default-clause-reads c =
    let a = c.args in let ts = drop a.from a.tokens.now.tokens in
    let none : assertions_view c.new.result ≡ no_exs = rw (c.new.ensures.items) refl in
    let whole : Calls (instruction_goal (invariants a.room)) ts (got (assertions_view c.new.result) ts) = rw none (by_rule (on_other c.in_default.ensures ended)) in
    record { outcome = whole; forward = omega arith; within = c.requires.start }

pub returns-clause-reads : goal.returns-clause-reads
returns-clause-reads c =
    let a = c.args in let all = a.tokens.now.tokens in let word = c.in-Some.ensures in let start = c.in-Some.start in
    carry (Calls (instruction_goal (assertions a.room)) (drop start all)) (Calls (instruction_goal (invariants a.room)) (drop a.from all)) assertions_view all start a.from c.assertions.result
    (omega (arith, word.behind)) (λ u d. by_rule (on_here word (tail {g = instruction_goal (assertions a.room)} u d))) c.assertions.ensures.reads
