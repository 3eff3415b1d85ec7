use Rattle.std.proofs.Common.{◌≡◌, ◌≢◌, ◌<◌, ◌-◌, length, map, ◌++◌, ◌∷◌, [], drop, arith}
use Rattle.std.proofs.lemmas.Grind.{common_steps}
use Rattle.eif_tree.specs.View.{parent_view}
use Rattle.eif_grammar.specs.declared.terminal.Terminal.TheVariants as t
use Rattle.eif_grammar.specs.ClassRules.{parents_from}
use Rattle.eif_grammar.specs.Goals.{parent, class_goal}
use Rattle.eif_grammar.specs.Outcomes.{got, refused, Runs, Calls}
use Rattle.eif_grammar.specs.Spelling.{head}
use Rattle.eif_grammar_laws.proofs.Readers.{call_refused}
use Rattle.eif_parse_expr.proofs.Steps.{relay}
use Rattle.eif_parse.specs.ClassSubrules.{parents_view}
use Rattle.eif_parse.proofs.Lists.{behind, behind-more}
use Rattle.eif_parse.proofs.ParentSteps.{last_parent, one_more_parent, parent_onward}
use Rattle.eif_parse.proofs.parents.parent_list.Goals as goal

pub returns-in_err-one : goal.returns-in_err-one
returns-in_err-one c =
    let a = c.args in let all = a.tokens.now.tokens in let i = c.parents.invariant in
    relay (Calls (class_goal parent) (drop c.parents.next all)) (Runs parents_from (drop a.from all)) parent_view parents_view all c.parents.next a.from _ _
    c.from_residual.ensures.1 c.in_err-one.ensures i.forward (λ rest r. i.goes_on (refused rest) (call_refused r))

pub returns-then-not-is_at : goal.returns-then-not-is_at
returns-then-not-is_at c =
    let a = c.args in let all = a.tokens.now.tokens in let i = c.parents.invariant in let r = c.in_ok-one.ensures in let s = c.semis-next.ensures in
    let x = parent_view c.in_ok-one.one.tree in let rest = drop c.semis-next.result all in
    let pushed : map parent_view c.push.new.self.items ≡ map parent_view c.parents.tree.items ++ x ∷ [] = grind (arith, common_steps, c.in_ok-push.ensures.items) in
    let other : head rest ≢ t.Identifier = λ same. let yes = c.is_at.ensures.1 same in let no = c.if-not-is_at.true in cc in
    let whole : Runs parents_from (drop a.from all) (got (parents_view c.push.new.self) rest) =
    rw pushed (i.goes_on (got (x ∷ []) rest) (last_parent r.outcome s.outcome other)) in
    record { outcome = whole; forward = omega (arith, i.forward, r.forward, s.forward); within = s.within }

pub parents-smaller : goal.parents-smaller
parents-smaller c =
    let all = c.args.tokens.now.tokens in let one = c.in_ok-one.one in let r = c.in_ok-one.ensures in let s = c.semis-next.ensures in
    let less : length all - c.semis-next.result < length all - c.parents.next = omega (arith, parent_onward all c.parents.next one.next r.outcome r.within, s.forward, s.within) in less

pub parents-preserved : goal.parents-preserved
parents-preserved c =
    let all = c.args.tokens.now.tokens in let i = c.parents.invariant in let r = c.in_ok-one.ensures in let s = c.semis-next.ensures in
    let x = parent_view c.in_ok-one.one.tree in let before = map parent_view c.parents.tree.items in
    let pushed : map parent_view c.push.new.self.items ≡ before ++ x ∷ [] = grind (arith, common_steps, c.in_ok-push.ensures.items) in
    let name : head (drop c.semis-next.result all) ≡ t.Identifier = c.is_at.ensures.0 (c.if-not-is_at.false) in
    record {
      within = s.within;
      forward = omega (arith, i.forward, r.forward, s.forward);
      goes_on = λ u d. rw pushed (rw (behind-more before x u) at (i.goes_on (behind (x ∷ []) u) (one_more_parent u r.outcome s.outcome name d)));
    }
