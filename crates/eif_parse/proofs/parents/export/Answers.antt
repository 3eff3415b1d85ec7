use Rattle.std.proofs.Common.{drop, arith}
use Rattle.eif_tree.specs.View.{clients_view, export_view}
use Rattle.eif_grammar.specs.Goals.{clients, names, export, class_goal}
use Rattle.eif_grammar.specs.Outcomes.{got, Calls}
use Rattle.eif_grammar_laws.proofs.Readers.{by_rule, called, call_refused, ended}
use Rattle.eif_grammar_laws.proofs.Terminals.{on_other}
use Rattle.eif_parse_expr.proofs.Steps.{relay, on_here}
use Rattle.eif_parse.specs.ClassSubrules.{names_view}
use Rattle.eif_parse.proofs.parents.export.Goals as goal

pub returns-in_err-clients : goal.returns-in_err-clients
returns-in_err-clients c =
    let a = c.args in let all = a.tokens.now.tokens in let ts = drop a.from all in
    relay (Calls (class_goal clients) ts) (Calls (class_goal export) ts) clients_view export_view all a.from a.from _ _
    c.from_residual.ensures.1 c.in_err-clients.ensures (omega arith) (λ rest r. by_rule (call_refused r))

pub returns-in-Some : goal.returns-in-Some
returns-in-Some c =
    let a = c.args in let all = a.tokens.now.tokens in let r = c.in_ok-clients.ensures in let word = c.in-Some.ensures in
    let whole : Calls (class_goal export) (drop a.from all) (got (export_view c.written_export.result) (drop c.in-Some.next all)) =
    rw (c.written_export.ensures, c.place_at.ensures, c.new.ensures.items) (by_rule (called r.outcome (on_here word ended))) in
    record { outcome = whole; forward = omega (arith, r.forward, word.behind); within = word.within }

pub returns-in_err-names : goal.returns-in_err-names
returns-in_err-names c =
    let a = c.args in let all = a.tokens.now.tokens in let next = c.in_ok-clients.clients.next in let r = c.in_ok-clients.ensures in
    relay (Calls (class_goal names) (drop next all)) (Calls (class_goal export) (drop a.from all)) names_view export_view all next a.from _ _
    c.from_residual-in_err-names.ensures.1 c.in_err-names.ensures r.forward (λ rest n. by_rule (called r.outcome (on_other c.in_default.ensures (call_refused n))))

pub returns : goal.returns
returns c =
    let a = c.args in let all = a.tokens.now.tokens in let r = c.in_ok-clients.ensures in let n = c.in_ok-names.ensures in
    let whole : Calls (class_goal export) (drop a.from all) (got (export_view c.written_export-2.result) (drop c.in_ok-names.names.next all)) =
    rw (c.written_export-2.ensures) (by_rule (called r.outcome (on_other c.in_default.ensures (called n.outcome ended)))) in
    record { outcome = whole; forward = omega (arith, r.forward, n.forward); within = n.within }
