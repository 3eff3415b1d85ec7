use Rattle.std.proofs.Common.{◌≡◌, ◌≢◌, ◌<◌, ◌-◌, length, map, ◌++◌, ◌∷◌, [], drop, sym, ap, arith}
use Rattle.std.proofs.lemmas.Grind.{common_steps}
use Rattle.std.proofs.lemmas.List.{length-drop}
use Rattle.eif_tree.specs.View.{group_view}
use Rattle.eif_grammar.specs.declared.terminal.Terminal.TheVariants as t
use Rattle.eif_grammar.specs.ClassRules.{groups_from}
use Rattle.eif_grammar.specs.Goals.{group, class_goal}
use Rattle.eif_grammar.specs.Outcomes.{got, refused, Runs, Calls}
use Rattle.eif_grammar.specs.Spelling.{head}
use Rattle.eif_grammar_laws.proofs.Readers.{call_refused}
use Rattle.eif_parse_expr.proofs.Steps.{relay}
use Rattle.eif_parse.specs.ClassSubrules.{groups_view}
use Rattle.eif_parse.proofs.Lists.{behind, behind-more}
use Rattle.eif_parse.proofs.GroupSteps.{group_onward, last_group, one_more_group}
use Rattle.eif_parse.proofs.groups.group_list.Goals.{else-next-one-via-then-next-one+else-not-is_at, else-next-one-via-else-next-one}
use Rattle.eif_parse.proofs.groups.group_list.Goals as goal

pub returns-in_err-one : goal.returns-in_err-one
returns-in_err-one c =
    let a = c.args in let all = a.tokens.now.tokens in let i = c.groups.invariant in
    relay (Calls (class_goal group) (drop c.groups.next all)) (Runs groups_from (drop a.from all)) group_view groups_view all c.groups.next a.from _ _
    c.from_residual.ensures.1 c.in_err-one.ensures i.forward (λ rest r. i.goes_on (refused rest) (call_refused r))

pub returns-then-not-is_at : goal.returns-then-not-is_at
returns-then-not-is_at c =
    let a = c.args in let all = a.tokens.now.tokens in let i = c.groups.invariant in let r = c.in_ok-one.ensures in let s = c.semis-next.ensures in
    let ts = drop c.semis-next.result all in let before = map group_view c.groups.tree.items in let g = group_view c.in_ok-one.one.tree in
    let none : c.in_ok-one.one.next ≡ c.semis-next.result = sym c.if-next-one.true in
    let other : head ts ≢ t.Identifier = λ same. let yes = c.is_at.ensures.1 same in let no = c.if-not-is_at.true in cc in
    let pushed : map group_view c.push.new.self.items ≡ before ++ g ∷ [] = grind (arith, common_steps, c.in_ok-push.ensures.items) in
    let whole : Runs groups_from (drop a.from all) (got (map group_view c.push.new.self.items) ts) =
    rw pushed (i.goes_on (got (g ∷ []) ts) (last_group (rw none at r.outcome) (rw none at s.outcome) other)) in
    record { outcome = whole; forward = omega (arith, i.forward, r.forward, s.forward); within = s.within }

pub groups-smaller : goal.groups-smaller
groups-smaller c =
    let all = c.args.tokens.now.tokens in let r = c.in_ok-one.ensures in let s = c.semis-next.ensures in
    let less : length all - c.semis-next.result < length all - c.groups.next =
    omega (arith, group_onward all c.groups.next c.in_ok-one.one.next r.outcome r.within, r.within, s.forward, s.within) in less

pub groups-preserved : goal.groups-preserved
groups-preserved c =
    let all = c.args.tokens.now.tokens in let i = c.groups.invariant in let one = c.in_ok-one.one in let r = c.in_ok-one.ensures in let s = c.semis-next.ensures in
    let end = c.semis-next.result in let before = map group_view c.groups.tree.items in let g = group_view one.tree in
    let pushed : map group_view c.push.new.self.items ≡ before ++ g ∷ [] = grind (arith, common_steps, c.in_ok-push.ensures.items) in
    let name : drop one.next all ≡ drop end all → head (drop end all) ≡ t.Identifier = λ e. elim c.else-next-one.branch [
      | else-next-one-via-then-next-one+else-not-is_at w ↦ w.is_at.ensures.0 w.if-not-is_at.false
      | else-next-one-via-else-next-one w ↦ absurd (omega (arith, ap length e, length-drop one.next all, length-drop end all, r.within, s.within, w.if-next-one.false))
    ] in
    record {
      within = s.within;
      forward = omega (arith, i.forward, r.forward, s.forward);
      goes_on = λ u d. rw pushed (rw (behind-more before g u) at (i.goes_on (behind (g ∷ []) u) (one_more_group u r.outcome s.outcome name d)));
    }
