use Rattle.std.proofs.Common.{drop, arith}
use Rattle.eif_grammar.specs.declared.terminal.Terminal.TheVariants as t
use Rattle.eif_grammar.specs.Goals.{formals, obsolete, class_goal}
use Rattle.eif_grammar.specs.Outcomes.{got, Runs, Calls}
use Rattle.eif_grammar_laws.proofs.Readers.{called, call_refused, ended}
use Rattle.eif_parse_expr.proofs.Steps.{relay, relay_token, relay_name, token_here, expect_here, other_here}
use Rattle.eif_parse.specs.ClassSubrules.{class_head, head_view, formals_view}
use Rattle.eif_parse.proofs.class.class_head.Goals as goal

pub returns-in_err-start : goal.returns-in_err-start
returns-in_err-start c =
    let a = c.args in let all = a.tokens.now.tokens in
    relay_token (Runs class_head (drop a.from all)) head_view t.Class all a.from a.from _ _ c.from_residual.ensures.1 c.in_err-start.ensures (omega arith) c.requires
    (λ other. other_here other)

pub returns-in_err-name : goal.returns-in_err-name
returns-in_err-name c =
    let a = c.args in let all = a.tokens.now.tokens in let word = c.in_ok-start.ensures in
    relay_name (Runs class_head (drop a.from all)) head_view all c.in_ok-start.start a.from _ _ c.from_residual-in_err-name.ensures.1 c.in_err-name.ensures
    (omega (arith, word.behind)) word.within (λ other. expect_here word (other_here other))

pub returns-in_err-formals : goal.returns-in_err-formals
returns-in_err-formals c =
    let a = c.args in let all = a.tokens.now.tokens in let word = c.in_ok-start.ensures in let n = c.in_ok-name.name in let name = c.in_ok-name.ensures.0 in
    relay (Calls (class_goal formals) (drop n.next all)) (Runs class_head (drop a.from all)) formals_view head_view all n.next a.from _ _
    c.from_residual-in_err-formals.ensures.1 c.in_err-formals.ensures (omega (arith, word.behind, name.behind))
    (λ rest r. expect_here word (called (token_here name) (call_refused r)))

pub returns-in_err-end : goal.returns-in_err-end
returns-in_err-end c =
    let a = c.args in let all = a.tokens.now.tokens in let word = c.in_ok-start.ensures in let name = c.in_ok-name.ensures.0 in
    let fs = c.in_ok-formals.formals in let formals' = c.in_ok-formals.ensures in
    relay (Calls (class_goal obsolete) (drop fs.next all)) (Runs class_head (drop a.from all)) (λ x. x) head_view all fs.next a.from _ _
    c.from_residual-in_err-end.ensures.1 c.in_err-end.ensures (omega (arith, word.behind, name.behind, formals'.forward))
    (λ rest r. expect_here word (called (token_here name) (called formals'.outcome (call_refused r))))

pub returns : goal.returns
returns c =
    let a = c.args in let all = a.tokens.now.tokens in let word = c.in_ok-start.ensures in let n = c.in_ok-name.name in let name = c.in_ok-name.ensures.0 in
    let fs = c.in_ok-formals.formals in let formals' = c.in_ok-formals.ensures in let end = c.in_ok-end.ensures in
    let whole : Runs class_head (drop a.from all) (got (n.tree, formals_view fs.tree) (drop c.in_ok-end.end.next all)) =
    rw (c.in_ok-name.ensures.1) (expect_here word (called (token_here name) (called formals'.outcome (called end.outcome ended)))) in
    record { outcome = whole; forward = omega (arith, word.behind, name.behind, formals'.forward, end.forward); within = end.within }
