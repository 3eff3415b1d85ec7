use Rattle.std.proofs.Common.{◌≡◌, [], drop, refl, arith}
use Rattle.eif_grammar.specs.declared.terminal.Terminal.TheVariants as t
use Rattle.eif_grammar.specs.ClassRules.{groups_from}
use Rattle.eif_grammar.specs.Goals.{formal_arguments, class_goal}
use Rattle.eif_grammar.specs.Outcomes.{got, Runs, Calls}
use Rattle.eif_parse_expr.proofs.Steps.{relay, relay_token}
use Rattle.eif_parse.specs.ClassSubrules.{groups_view}
use Rattle.eif_parse.proofs.GroupSteps.{no_arguments, arguments_refused, arguments_unclosed, arguments_whole}
use Rattle.eif_parse.proofs.groups.formal_arguments.Goals as goal

pub returns-in_default : goal.returns-in_default
returns-in_default c =
    let a = c.args in let ts = drop a.from a.tokens.now.tokens in
    let none : groups_view c.new.result ≡ [] = rw (c.new.ensures.items) refl in
    let whole : Calls (class_goal formal_arguments) ts (got (groups_view c.new.result) ts) = rw none (no_arguments c.in_default.ensures) in
    record { outcome = whole; forward = omega arith; within = c.requires }

pub returns-in_err-all : goal.returns-in_err-all
returns-in_err-all c =
    let a = c.args in let all = a.tokens.now.tokens in let open' = c.in-Some.ensures in let start = c.in-Some.start in
    relay (Runs groups_from (drop start all)) (Calls (class_goal formal_arguments) (drop a.from all)) groups_view groups_view all start a.from _ _
    c.from_residual.ensures.1 c.in_err-all.ensures (omega (arith, open'.behind)) (λ rest r. arguments_refused open' r)

pub returns-in_err-next : goal.returns-in_err-next
returns-in_err-next c =
    let a = c.args in let all = a.tokens.now.tokens in let open' = c.in-Some.ensures in let gs = c.in_ok-all.all in let r = c.in_ok-all.ensures in
    relay_token (Calls (class_goal formal_arguments) (drop a.from all)) groups_view t.CloseParenthesis all gs.next a.from _ _
    c.from_residual-in_err-next.ensures.1 c.in_err-next.ensures (omega (arith, open'.behind, r.forward)) r.within (λ other. arguments_unclosed open' r.outcome other)

pub returns : goal.returns
returns c =
    let open' = c.in-Some.ensures in let r = c.in_ok-all.ensures in let close = c.in_ok-next.ensures in
    record { outcome = arguments_whole open' r.outcome close; forward = omega (arith, open'.behind, r.forward, close.behind); within = close.within }
