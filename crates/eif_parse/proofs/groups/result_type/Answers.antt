use Rattle.std.proofs.Common.{drop, arith}
use Rattle.std.specs.Option.{option_map}
use Rattle.eif_tree.specs.View.{type_view}
use Rattle.eif_grammar.specs.Goals.{written, result_type, type_goal, class_goal}
use Rattle.eif_grammar.specs.Parts.{most_height}
use Rattle.eif_grammar.specs.Outcomes.{Calls}
use Rattle.eif_parse_expr.proofs.Steps.{relay}
use Rattle.eif_parse.proofs.GroupSteps.{no_result, result_refused, result_found}
use Rattle.eif_parse.proofs.groups.result_type.Goals as goal

pub returns-in_default : goal.returns-in_default
returns-in_default c = record { outcome = no_result c.in_default.ensures; forward = omega arith; within = c.requires }

pub returns-in_err-written : goal.returns-in_err-written
returns-in_err-written c =
    let a = c.args in let all = a.tokens.now.tokens in let colon = c.in-Some.ensures in let start = c.in-Some.start in
    relay (Calls (type_goal (written most_height)) (drop start all)) (Calls (class_goal result_type) (drop a.from all)) type_view (option_map type_view) all start a.from _ _
    c.from_residual.ensures.1 c.in_err-written.ensures.reads (omega (arith, colon.behind)) (λ rest r. result_refused colon r)

pub returns : goal.returns
returns c =
    let colon = c.in-Some.ensures in let r = c.in_ok-written.ensures.reads in
    record { outcome = result_found colon r.outcome; forward = omega (arith, colon.behind, r.forward); within = r.within }
