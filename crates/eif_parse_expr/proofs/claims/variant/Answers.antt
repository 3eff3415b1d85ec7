use Rattle.std.proofs.Common.{drop, arith}
use Rattle.std.specs.Option.{option_map}
use Rattle.eif_tree.specs.View.{expr_view}
use Rattle.eif_grammar.specs.Goals.{assertion, variant, instruction_goal}
use Rattle.eif_grammar.specs.Outcomes.{Calls}
use Rattle.eif_grammar_laws.proofs.Readers.{by_rule, called, call_refused, ended}
use Rattle.eif_grammar_laws.proofs.Terminals.{on_other}
use Rattle.eif_parse_expr.proofs.Steps.{relay, on_here}
use Rattle.eif_parse_expr.proofs.claims.variant.Goals as goal

pub returns-in_default-clause-reads : goal.returns-in_default-clause-reads
returns-in_default-clause-reads c = record { outcome = by_rule (on_other c.in_default.ensures ended); forward = omega arith; within = c.requires.start }

pub returns-in_err-value-clause-reads : goal.returns-in_err-value-clause-reads
returns-in_err-value-clause-reads c =
    let a = c.args in let all = a.tokens.now.tokens in let word = c.in-Some.ensures in let start = c.in-Some.start in
    relay (Calls (instruction_goal (assertion a.room)) (drop start all)) (Calls (instruction_goal (variant a.room)) (drop a.from all)) expr_view (option_map expr_view) all start a.from _ _
    c.from_residual.ensures.1 c.in_err-value.ensures.reads (omega (arith, word.behind)) (λ rest d. by_rule (on_here word (call_refused d)))

pub returns-clause-reads : goal.returns-clause-reads
returns-clause-reads c =
    let word = c.in-Some.ensures in let r = c.in_ok-value.ensures.reads in let s = c.semis.ensures in
    record { outcome = by_rule (on_here word (called r.outcome (called s.outcome ended))); forward = omega (arith, word.behind, r.forward, s.forward); within = s.within }
