use Rattle.std.proofs.Common.{drop, arith}
use Rattle.eif_grammar.specs.Goals.{literal, note_item, class_goal}
use Rattle.eif_grammar.specs.Outcomes.{Calls}
use Rattle.eif_grammar_laws.proofs.Readers.{by_rule, called, call_refused, ended}
use Rattle.eif_grammar_laws.proofs.Terminals.{on_other}
use Rattle.eif_parse_expr.proofs.Steps.{relay, on_here}
use Rattle.eif_parse.proofs.notes.note_item.Goals as goal

pub returns-in_err-next-in-None : goal.returns-in_err-next-in-None
returns-in_err-next-in-None c =
    let a = c.args in let all = a.tokens.now.tokens in let ts = drop a.from all in
    relay (Calls (class_goal literal) ts) (Calls (class_goal note_item) ts) (λ l. l) (λ x. x) all a.from a.from _ _
    c.from_residual.ensures.1 c.in_err-next-in-None.ensures (omega arith)
    (λ rest r. by_rule (on_other c.in-None.ensures (call_refused r)))

pub returns-in-Some : goal.returns-in-Some
returns-in-Some c =
    let name = c.in-Some.ensures in
    record { outcome = by_rule (on_here name ended); forward = omega (arith, name.behind); within = name.within }

pub returns-in_ok-next-in-None : goal.returns-in_ok-next-in-None
returns-in_ok-next-in-None c =
    let r = c.in_ok-next-in-None.ensures in
    record { outcome = by_rule (on_other c.in-None.ensures (called r.outcome ended)); forward = r.forward; within = r.within }
