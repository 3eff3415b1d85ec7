use Rattle.std.proofs.Common.{◌≡◌, true, false, drop, refl, sym, ◌∙◌, arith}
use Rattle.eif_tree.specs.View.{type_view, parent_view}
use Rattle.eif_grammar.specs.ClassRules.{unchanged}
use Rattle.eif_grammar.specs.Forms as form
use Rattle.eif_grammar.specs.Goals.{unmarked, more_clauses, parent, type_goal, class_goal}
use Rattle.eif_grammar.specs.Outcomes.{got, Calls}
use Rattle.eif_grammar.specs.Parts.{most_height}
use Rattle.eif_grammar.specs.Spelling.{head}
use Rattle.eif_grammar_laws.proofs.Readers.{by_rule, call_refused}
use Rattle.eif_parse_expr.proofs.Steps.{carry, relay}
use Rattle.eif_parse.proofs.ParentSteps.{begins_is, parent_changed, parent_unchanged}
use Rattle.eif_parse.proofs.parents.parent.Goals as goal

pub returns-in_err-named : goal.returns-in_err-named
returns-in_err-named c =
    let a = c.args in let all = a.tokens.now.tokens in let ts = drop a.from all in
    relay (Calls (type_goal (unmarked most_height)) ts) (Calls (class_goal parent) ts) type_view parent_view all a.from a.from _ _
    c.from_residual.ensures.1 c.in_err-named.ensures.reads (omega arith) (λ rest r. by_rule (call_refused r))

pub returns-then-is_some : goal.returns-then-is_some
returns-then-is_some c =
    let a = c.args in let all = a.tokens.now.tokens in let named = c.in_ok-named.named in let r = c.in_ok-named.ensures.reads in let p = parent_view c.written_parent-unchanged.result in
    let begins : form.begins_clause (head (drop named.next all)) ≡ true = begins_is c.clause_start.result c.clause_start.ensures c.next_terminal.ensures ∙ sym c.is_some.ensures ∙ c.if-is_some.true in
    let plain : p ≡ unchanged (type_view named.tree) =
    rw (c.written_parent-unchanged.ensures, c.new.ensures.items, c.new-2.ensures.items, c.new-3.ensures.items, c.new-4.ensures.items, c.new-5.ensures.items) refl in
    carry (Calls (class_goal (more_clauses p)) (drop named.next all)) (Calls (class_goal parent) (drop a.from all)) parent_view all named.next a.from c.more_clauses.result
    r.forward (λ o d. parent_changed r.outcome begins (rw plain at d)) c.more_clauses.ensures

pub returns : goal.returns
returns c =
    let a = c.args in let all = a.tokens.now.tokens in let named = c.in_ok-named.named in let r = c.in_ok-named.ensures.reads in let p = parent_view c.written_parent-unchanged.result in
    let none : form.begins_clause (head (drop named.next all)) ≡ false = begins_is c.clause_start.result c.clause_start.ensures c.next_terminal.ensures ∙ sym c.is_some.ensures ∙ c.if-is_some.false in
    let plain : p ≡ unchanged (type_view named.tree) =
    rw (c.written_parent-unchanged.ensures, c.new.ensures.items, c.new-2.ensures.items, c.new-3.ensures.items, c.new-4.ensures.items, c.new-5.ensures.items) refl in
    let whole : Calls (class_goal parent) (drop a.from all) (got p (drop named.next all)) = rw plain (parent_unchanged r.outcome none) in
    record { outcome = whole; forward = r.forward; within = r.within }
