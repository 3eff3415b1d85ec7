use Rattle.std.proofs.Common.{drop, arith}
use Rattle.eif_tree.specs.View.{formal_view, type_view}
use Rattle.eif_grammar.specs.Goals.{written, formal, type_goal, class_goal}
use Rattle.eif_grammar.specs.Parts.{most_height}
use Rattle.eif_grammar.specs.Outcomes.{got, Calls}
use Rattle.eif_parse_expr.proofs.Steps.{relay, relay_name}
use Rattle.eif_parse.proofs.HeadSteps.{no_formal, formal_alone, formal_refused, formal_bound}
use Rattle.eif_parse.proofs.heads.formal.Goals as goal

pub returns-in_err-name : goal.returns-in_err-name
returns-in_err-name c =
    let a = c.args in let all = a.tokens.now.tokens in
    relay_name (Calls (class_goal formal) (drop a.from all)) formal_view all a.from a.from _ _ c.from_residual.ensures.1 c.in_err-name.ensures (omega arith) c.requires no_formal

pub returns-in_default : goal.returns-in_default
returns-in_default c =
    let a = c.args in let all = a.tokens.now.tokens in let n = c.in_ok-name.name in let name = c.in_ok-name.ensures in
    let whole : Calls (class_goal formal) (drop a.from all) (got (formal_view c.written_formal.result) (drop n.next all)) =
    rw (c.written_formal.ensures, name.1) (formal_alone name.0 c.in_default.ensures) in
    record { outcome = whole; forward = omega (arith, name.0.behind); within = name.0.within }

pub returns-in_err-constraint : goal.returns-in_err-constraint
returns-in_err-constraint c =
    let a = c.args in let all = a.tokens.now.tokens in let name = c.in_ok-name.ensures.0 in let arrow = c.in-Some.ensures in let start = c.in-Some.start in
    relay (Calls (type_goal (written most_height)) (drop start all)) (Calls (class_goal formal) (drop a.from all)) type_view formal_view all start a.from _ _
    c.from_residual-in_err-constraint.ensures.1 c.in_err-constraint.ensures.reads (omega (arith, name.behind, arrow.behind)) (λ rest r. formal_refused name arrow r)

pub returns : goal.returns
returns c =
    let a = c.args in let all = a.tokens.now.tokens in let name = c.in_ok-name.ensures in let arrow = c.in-Some.ensures in
    let ty = c.in_ok-constraint.constraint in let r = c.in_ok-constraint.ensures.reads in
    let whole : Calls (class_goal formal) (drop a.from all) (got (formal_view c.written_formal-2.result) (drop ty.next all)) =
    rw (c.written_formal-2.ensures, name.1) (formal_bound name.0 arrow r.outcome) in
    record { outcome = whole; forward = omega (arith, name.0.behind, arrow.behind, r.forward); within = r.within }
