use Rattle.std.proofs.Common.{drop, arith}
use Rattle.eif_tree.specs.View.{clients_view}
use Rattle.eif_grammar.specs.declared.terminal.Terminal.TheVariants as t
use Rattle.eif_grammar.specs.Goals.{names, clients, class_goal}
use Rattle.eif_grammar.specs.Outcomes.{got, Calls}
use Rattle.eif_parse_expr.proofs.Steps.{relay, relay_token}
use Rattle.eif_parse.specs.ClassSubrules.{names_view}
use Rattle.eif_parse.proofs.HeadSteps.{no_brace, empty_braces, clients_refused, clients_unclosed, clients_whole}
use Rattle.eif_parse.proofs.heads.clients.Goals as goal

pub returns-in_err-start : goal.returns-in_err-start
returns-in_err-start c =
    let a = c.args in let all = a.tokens.now.tokens in
    relay_token (Calls (class_goal clients) (drop a.from all)) clients_view t.OpenBrace all a.from a.from _ _
    c.from_residual.ensures.1 c.in_err-start.ensures (omega arith) c.requires no_brace

pub returns-in-Some : goal.returns-in-Some
returns-in-Some c =
    let a = c.args in let all = a.tokens.now.tokens in let brace = c.in_ok-start.ensures in let close = c.in-Some.ensures in
    let whole : Calls (class_goal clients) (drop a.from all) (got (clients_view c.written_clients.result) (drop c.in-Some.next all)) =
    rw (c.written_clients.ensures, c.new.ensures.items) (empty_braces brace close) in
    record { outcome = whole; forward = omega (arith, brace.behind, close.behind); within = close.within }

pub returns-in_err-all : goal.returns-in_err-all
returns-in_err-all c =
    let a = c.args in let all = a.tokens.now.tokens in let brace = c.in_ok-start.ensures in let start = c.in_ok-start.start in
    relay (Calls (class_goal names) (drop start all)) (Calls (class_goal clients) (drop a.from all)) names_view clients_view all start a.from _ _
    c.from_residual-in_err-all.ensures.1 c.in_err-all.ensures (omega (arith, brace.behind)) (λ rest r. clients_refused brace c.in_default.ensures r)

pub returns-in_err-next : goal.returns-in_err-next
returns-in_err-next c =
    let a = c.args in let all = a.tokens.now.tokens in let brace = c.in_ok-start.ensures in let ns = c.in_ok-all.all in let r = c.in_ok-all.ensures in
    relay_token (Calls (class_goal clients) (drop a.from all)) clients_view t.CloseBrace all ns.next a.from _ _
    c.from_residual-in_err-next.ensures.1 c.in_err-next.ensures (omega (arith, brace.behind, r.forward)) r.within
    (λ other. clients_unclosed brace c.in_default.ensures r.outcome other)

pub returns : goal.returns
returns c =
    let a = c.args in let all = a.tokens.now.tokens in let brace = c.in_ok-start.ensures in let r = c.in_ok-all.ensures in let close = c.in_ok-next.ensures in
    let whole : Calls (class_goal clients) (drop a.from all) (got (clients_view c.written_clients-2.result) (drop c.in_ok-next.next all)) =
    rw (c.written_clients-2.ensures) (clients_whole brace c.in_default.ensures r.outcome close) in
    record { outcome = whole; forward = omega (arith, brace.behind, r.forward, close.behind); within = close.within }
