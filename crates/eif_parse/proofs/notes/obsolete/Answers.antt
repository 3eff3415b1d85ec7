use Rattle.std.proofs.Common.{drop, arith}
use Rattle.eif_grammar.specs.declared.terminal.Terminal.TheVariants as t
use Rattle.eif_grammar.specs.Goals.{obsolete, class_goal}
use Rattle.eif_grammar.specs.Outcomes.{Calls}
use Rattle.eif_grammar_laws.proofs.Readers.{by_rule, ended}
use Rattle.eif_grammar_laws.proofs.Terminals.{on_other}
use Rattle.eif_parse_expr.proofs.Steps.{relay_token, on_here, expect_here, other_here}
use Rattle.eif_parse.proofs.notes.obsolete.Goals as goal

pub returns-in_err-next-in-Some : goal.returns-in_err-next-in-Some
returns-in_err-next-in-Some c =
    let a = c.args in let all = a.tokens.now.tokens in let word = c.in-Some.ensures in
    relay_token (Calls (class_goal obsolete) (drop a.from all)) (λ x. x) t.StringText all c.in-Some.start a.from _ _
    c.from_residual.ensures.1 c.in_err-next-in-Some.ensures (omega (arith, word.behind)) word.within
    (λ other. by_rule (on_here word (other_here other)))

pub returns-in_ok-next-in-Some : goal.returns-in_ok-next-in-Some
returns-in_ok-next-in-Some c =
    let word = c.in-Some.ensures in let text = c.in_ok-next-in-Some.ensures in
    record { outcome = by_rule (on_here word (expect_here text ended)); forward = omega (arith, word.behind, text.behind); within = text.within }

pub returns-in-None : goal.returns-in-None
returns-in-None c = record { outcome = by_rule (on_other c.in-None.ensures ended); forward = omega arith; within = c.requires }
