use Rattle.std.proofs.Common.{drop, arith}
use Rattle.std.specs.Option.{option_map}
use Rattle.eif_tree.specs.View.{decl_view, type_view}
use Rattle.eif_grammar.specs.Goals.{result_type, routine_rest, class_goal}
use Rattle.eif_grammar.specs.Outcomes.{Calls}
use Rattle.eif_grammar_laws.proofs.Readers.{called, call_refused}
use Rattle.eif_grammar_laws.proofs.Taken.{tail}
use Rattle.eif_parse.specs.ClassSubrules.{groups_view}
use Rattle.eif_parse_expr.proofs.Steps.{carry, relay}
use Rattle.eif_parse.proofs.features.routine_from.Goals as goal

pub returns-in_err-written : goal.returns-in_err-written
returns-in_err-written c =
    let all = c.args.tokens.now.tokens in let x = c.in_ok-arguments.arguments in let args = c.in_ok-arguments.ensures in
    relay (Calls (class_goal result_type) (drop x.next all)) _ (option_map type_view) _ all x.next _ _ _
    c.from_residual-in_err-written.ensures.1 c.in_err-written.ensures args.forward (λ rest r. called args.outcome (call_refused r))

pub returns : goal.returns
returns c =
    let a = c.args in let all = a.tokens.now.tokens in let x = c.in_ok-arguments.arguments in let args = c.in_ok-arguments.ensures in
    let y = c.in_ok-written.written in let written = c.in_ok-written.ensures in let rest = class_goal (routine_rest a.name (groups_view x.tree) (option_map type_view y.tree)) in
    carry (Calls rest (drop y.next all)) _ decl_view all y.next _ _ (omega (arith, args.forward, written.forward))
    (λ o d. called args.outcome (called written.outcome (tail {g = rest} o d))) c.routine_rest.ensures
