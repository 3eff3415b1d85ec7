use Rattle.std.proofs.Common.{◌≡◌, ◌∷◌, [], drop, arith}
use Rattle.eif_tree.specs.View.{decl_view, type_view}
use Rattle.eif_grammar.specs.ClassRules.{value_of}
use Rattle.eif_grammar.specs.Goals.{written, type_goal}
use Rattle.eif_grammar.specs.Outcomes.{refused, Runs, Calls}
use Rattle.eif_grammar.specs.Parts.{most_height}
use Rattle.eif_grammar.specs.Reader.{name_of}
use Rattle.eif_grammar_laws.proofs.Readers.{called, call_refused}
use Rattle.eif_parse.specs.ClassSubrules.{names_view, names_behind}
use Rattle.eif_parse_expr.specs.Readings.{first}
use Rattle.eif_parse_expr.proofs.Bind.{bound, bound_refused}
use Rattle.eif_parse_expr.proofs.Steps.{carry, relay, relay_name, other_here}
use Rattle.eif_parse.proofs.FeatureSteps.{typed_names, several_from}
use Rattle.eif_parse.proofs.features.several.Goals as goal

pub returns-in_err-second : goal.returns-in_err-second
returns-in_err-second c =
    let a = c.args in
    relay_name _ _ a.tokens.now.tokens a.from _ _ _ c.from_residual.ensures.1 c.in_err-second.ensures (omega arith) c.requires (λ other. other_here other)

pub returns-in_err-names : goal.returns-in_err-names
returns-in_err-names c =
    let a = c.args in let all = a.tokens.now.tokens in let name = c.in_ok-second.ensures in let x = c.in_ok-second.second in let both = c.in_ok-both.both.items in
    let two : both ≡ a.first ∷ name_of (first (drop a.from all)) ∷ [] = rw (← name.1) c.in_ok-both.ensures.items in
    relay (Runs (names_behind both) (drop x.next all)) _ names_view _ all x.next _ _ _
    c.from_residual-in_err-names.ensures.1 c.in_err-names.ensures (omega (arith, name.0.behind))
    (λ rest r. several_from name.0 two (bound_refused typed_names (names_behind both) (drop x.next all) rest r))

pub returns-in_err-written : goal.returns-in_err-written
returns-in_err-written c =
    let a = c.args in let all = a.tokens.now.tokens in let name = c.in_ok-second.ensures in let x = c.in_ok-second.second in let both = c.in_ok-both.both.items in
    let two : both ≡ a.first ∷ name_of (first (drop a.from all)) ∷ [] = rw (← name.1) c.in_ok-both.ensures.items in
    let y = c.in_ok-names.names in let names = c.in_ok-names.ensures in
    relay (Calls (type_goal (written most_height)) (drop y.next all)) _ type_view _ all y.next _ _ _
    c.from_residual-in_err-written.ensures.1 c.in_err-written.ensures.reads (omega (arith, name.0.behind, names.forward))
    (λ rest r. several_from name.0 two (bound typed_names (names_behind both) (drop x.next all) (drop y.next all) y.tree.items (refused rest) names.outcome (call_refused r)))

pub returns : goal.returns
returns c =
    let a = c.args in let all = a.tokens.now.tokens in let name = c.in_ok-second.ensures in let x = c.in_ok-second.second in let both = c.in_ok-both.both.items in
    let two : both ≡ a.first ∷ name_of (first (drop a.from all)) ∷ [] = rw (← name.1) c.in_ok-both.ensures.items in
    let y = c.in_ok-names.names in let names = c.in_ok-names.ensures in let z = c.in_ok-written.written in let written = c.in_ok-written.ensures.reads in
    carry (Runs (value_of y.tree.items (type_view z.tree)) (drop z.next all)) _ decl_view all z.next _ _ (omega (arith, name.0.behind, names.forward, written.forward))
    (λ o d. several_from name.0 two (bound typed_names (names_behind both) (drop x.next all) (drop y.next all) y.tree.items o names.outcome (called written.outcome d))) c.value_of.ensures
