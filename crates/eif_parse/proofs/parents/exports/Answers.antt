use Rattle.std.proofs.Common.{◌≡◌, ◌≢◌, ◌<◌, ◌-◌, length, map, ◌++◌, ◌∷◌, [], drop, arith}
use Rattle.std.proofs.lemmas.Grind.{common_steps}
use Rattle.eif_tree.specs.View.{export_view}
use Rattle.eif_grammar.specs.declared.terminal.Terminal.TheVariants as t
use Rattle.eif_grammar.specs.Goals.{export, exports, class_goal}
use Rattle.eif_grammar.specs.Outcomes.{got, refused, Calls}
use Rattle.eif_grammar.specs.Spelling.{head}
use Rattle.eif_grammar_laws.proofs.Readers.{by_rule, call_refused}
use Rattle.eif_parse_expr.proofs.Steps.{relay}
use Rattle.eif_parse.specs.ClassSubrules.{exports_view}
use Rattle.eif_parse.proofs.Lists.{behind, behind-more}
use Rattle.eif_parse.proofs.ParentSteps.{last_export, one_more_export, export_onward}
use Rattle.eif_parse.proofs.parents.exports.Goals as goal

pub returns-in_err-one : goal.returns-in_err-one
returns-in_err-one c =
    let a = c.args in let all = a.tokens.now.tokens in let i = c.items.invariant in
    relay (Calls (class_goal export) (drop c.items.next all)) (Calls (class_goal exports) (drop a.from all)) export_view exports_view all c.items.next a.from _ _
    c.from_residual.ensures.1 c.in_err-one.ensures i.forward (λ rest r. i.goes_on (refused rest) (by_rule (call_refused r)))

pub returns-then-not-is_at : goal.returns-then-not-is_at
returns-then-not-is_at c =
    let a = c.args in let all = a.tokens.now.tokens in let i = c.items.invariant in let r = c.in_ok-one.ensures in let s = c.semis-next.ensures in
    let x = export_view c.in_ok-one.one.tree in let rest = drop c.semis-next.result all in
    let pushed : map export_view c.push.new.self.items ≡ map export_view c.items.tree.items ++ x ∷ [] = grind (arith, common_steps, c.in_ok-push.ensures.items) in
    let other : head rest ≢ t.OpenBrace = λ same. let yes = c.is_at.ensures.1 same in let no = c.if-not-is_at.true in cc in
    let whole : Calls (class_goal exports) (drop a.from all) (got (exports_view c.push.new.self) rest) =
    rw pushed (i.goes_on (got (x ∷ []) rest) (last_export r.outcome s.outcome other)) in
    record { outcome = whole; forward = omega (arith, i.forward, r.forward, s.forward); within = s.within }

pub items-smaller : goal.items-smaller
items-smaller c =
    let all = c.args.tokens.now.tokens in let one = c.in_ok-one.one in let r = c.in_ok-one.ensures in let s = c.semis-next.ensures in
    let less : length all - c.semis-next.result < length all - c.items.next = omega (arith, export_onward all c.items.next one.next r.outcome r.within, s.forward, s.within) in less

pub items-preserved : goal.items-preserved
items-preserved c =
    let all = c.args.tokens.now.tokens in let i = c.items.invariant in let r = c.in_ok-one.ensures in let s = c.semis-next.ensures in
    let x = export_view c.in_ok-one.one.tree in let before = map export_view c.items.tree.items in
    let pushed : map export_view c.push.new.self.items ≡ before ++ x ∷ [] = grind (arith, common_steps, c.in_ok-push.ensures.items) in
    let brace : head (drop c.semis-next.result all) ≡ t.OpenBrace = c.is_at.ensures.0 (c.if-not-is_at.false) in
    record {
      within = s.within;
      forward = omega (arith, i.forward, r.forward, s.forward);
      goes_on = λ u d. rw pushed (rw (behind-more before x u) at (i.goes_on (behind (x ∷ []) u) (one_more_export u r.outcome s.outcome brace d)));
    }
