use Rattle.std.proofs.Common.{drop, arith}
use Rattle.eif_grammar.specs.Goals.{notes, note_entries, class_goal}
use Rattle.eif_grammar.specs.Outcomes.{Calls}
use Rattle.eif_grammar_laws.proofs.Readers.{by_rule, ended}
use Rattle.eif_grammar_laws.proofs.Taken.{tail}
use Rattle.eif_grammar_laws.proofs.Terminals.{on_other}
use Rattle.eif_parse_expr.proofs.Steps.{carry, on_here}
use Rattle.eif_parse.proofs.notes.notes.Goals as goal

pub returns-in-Some : goal.returns-in-Some
returns-in-Some c =
    let a = c.args in let all = a.tokens.now.tokens in let word = c.in-Some.ensures in let start = c.in-Some.start in
    carry (Calls (class_goal note_entries) (drop start all)) (Calls (class_goal notes) (drop a.from all)) (λ x. x) all start a.from c.note_entries.result
    (omega (arith, word.behind)) (λ o d. by_rule (on_here word (tail {g = class_goal note_entries} o d))) c.note_entries.ensures

pub returns-in-None : goal.returns-in-None
returns-in-None c = record { outcome = by_rule (on_other c.in-None.ensures ended); forward = omega arith; within = c.requires }
