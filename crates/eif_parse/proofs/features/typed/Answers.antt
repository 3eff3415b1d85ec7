use Rattle.std.proofs.Common.{◌≡◌, ◌∷◌, [], Some, true, false, drop, refl}
use Rattle.eif_tree.specs.View.{decl_view, type_view}
use Rattle.eif_grammar.specs.ClassRules.{value_of}
use Rattle.eif_grammar.specs.Forms.{begins_routine}
use Rattle.eif_grammar.specs.Goals.{routine_rest, class_goal}
use Rattle.eif_grammar.specs.Outcomes.{Runs, Calls}
use Rattle.eif_grammar.specs.Spelling.{head}
use Rattle.eif_parse.specs.ClassSubrules.{groups_view}
use Rattle.eif_parse_expr.proofs.Steps.{carry}
use Rattle.eif_parse.proofs.FeatureSteps.{typed_routine, typed_value}
use Rattle.eif_parse.proofs.features.typed.Goals as goal

pub returns-then-begins_routine : goal.returns-then-begins_routine
returns-then-begins_routine c =
    let a = c.args in let all = a.tokens.now.tokens in let x = c.in_ok-written.written in let written = c.in_ok-written.ensures.reads in let args = c.new-no_arguments.result in
    let begins : begins_routine (head (drop x.next all)) ≡ true = cc (c.next_terminal.ensures, c.begins_routine.ensures, c.if-begins_routine.true) in
    let none : groups_view args ≡ [] = rw c.new-no_arguments.ensures.items refl in
    carry (Calls (class_goal (routine_rest a.name (groups_view args) (Some (type_view x.tree)))) (drop x.next all)) _ decl_view all x.next _ _ written.forward
    (λ o d. typed_routine o begins written.outcome (rw (← none) d)) c.routine_rest.ensures

pub returns : goal.returns
returns c =
    let a = c.args in let all = a.tokens.now.tokens in let x = c.in_ok-written.written in let written = c.in_ok-written.ensures.reads in let names = c.in_ok-names.names.items in
    let none : begins_routine (head (drop x.next all)) ≡ false = cc (c.next_terminal.ensures, c.begins_routine.ensures, c.if-begins_routine.false) in
    let one : names ≡ a.name ∷ [] = c.in_ok-names.ensures.items in
    carry (Runs (value_of names (type_view x.tree)) (drop x.next all)) _ decl_view all x.next _ _ written.forward
    (λ o d. typed_value none written.outcome (rw (← one) d)) c.value_of.ensures
