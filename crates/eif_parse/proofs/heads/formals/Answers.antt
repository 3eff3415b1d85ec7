use Rattle.std.proofs.Common.{◌≡◌, [], drop, refl, arith}
use Rattle.eif_grammar.specs.declared.terminal.Terminal.TheVariants as t
use Rattle.eif_grammar.specs.Goals.{formals, class_goal}
use Rattle.eif_grammar.specs.Outcomes.{got, Runs, Calls}
use Rattle.eif_parse_expr.proofs.Steps.{relay, relay_token}
use Rattle.eif_parse.specs.ClassSubrules.{formal_list, formals_view}
use Rattle.eif_parse.proofs.HeadSteps.{no_formals, formals_refused, formals_unclosed, formals_whole}
use Rattle.eif_parse.proofs.heads.formals.Goals as goal

pub returns-in_default : goal.returns-in_default
returns-in_default c =
    let a = c.args in let ts = drop a.from a.tokens.now.tokens in
    let none : formals_view c.new.result ≡ [] = rw (c.new.ensures.items) refl in
    let whole : Calls (class_goal formals) ts (got (formals_view c.new.result) ts) = rw none (no_formals c.in_default.ensures) in
    record { outcome = whole; forward = omega arith; within = c.requires }

pub returns-in_err-all : goal.returns-in_err-all
returns-in_err-all c =
    let a = c.args in let all = a.tokens.now.tokens in let open' = c.in-Some.ensures in let start = c.in-Some.start in
    relay (Runs formal_list (drop start all)) (Calls (class_goal formals) (drop a.from all)) formals_view formals_view all start a.from _ _
    c.from_residual.ensures.1 c.in_err-all.ensures (omega (arith, open'.behind)) (λ rest r. formals_refused open' r)

pub returns-in_err-next : goal.returns-in_err-next
returns-in_err-next c =
    let a = c.args in let all = a.tokens.now.tokens in let open' = c.in-Some.ensures in let fs = c.in_ok-all.all in let r = c.in_ok-all.ensures in
    relay_token (Calls (class_goal formals) (drop a.from all)) formals_view t.CloseBracket all fs.next a.from _ _
    c.from_residual-in_err-next.ensures.1 c.in_err-next.ensures (omega (arith, open'.behind, r.forward)) r.within (λ other. formals_unclosed open' r.outcome other)

pub returns : goal.returns
returns c =
    let open' = c.in-Some.ensures in let r = c.in_ok-all.ensures in let close = c.in_ok-next.ensures in
    record { outcome = formals_whole open' r.outcome close; forward = omega (arith, open'.behind, r.forward, close.behind); within = close.within }
