use Rattle.std.proofs.Common.{drop, arith}
use Rattle.eif_tree.specs.View.{decl_view, type_view}
use Rattle.eif_grammar.specs.ClassRules.{value_of}
use Rattle.eif_grammar.specs.Goals.{literal, class_goal}
use Rattle.eif_grammar.specs.Outcomes.{got, Runs, Calls}
use Rattle.eif_grammar_laws.proofs.Readers.{called, call_refused, ended}
use Rattle.eif_parse_expr.proofs.Steps.{relay, on_here}
use Rattle.eif_parse.proofs.features.value_of.Goals as goal

pub returns-in_err-value : goal.returns-in_err-value
returns-in_err-value c =
    let all = c.args.tokens.now.tokens in let equal = c.in-Some.ensures in let start = c.in-Some.start in
    relay (Calls (class_goal literal) (drop start all)) _ (λ l. l) _ all start _ _ _ c.from_residual.ensures.1 c.in_err-value.ensures (omega (arith, equal.behind))
    (λ rest r. on_here equal (call_refused r))

pub returns : goal.returns
returns c =
    let a = c.args in let all = a.tokens.now.tokens in let equal = c.in-Some.ensures in let value = c.in_ok-value.ensures in let ty = type_view a.type_tree in
    let whole : Runs (value_of a.names.items ty) (drop a.from all) (got (decl_view c.written_attributes-2.result) (drop c.in_ok-value.value.next all)) =
    rw (c.written_attributes-2.ensures, c.constant.ensures) (on_here equal (called value.outcome ended)) in
    record { outcome = whole; forward = omega (arith, equal.behind, value.forward); within = value.within }
