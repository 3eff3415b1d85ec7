use Rattle.std.proofs.Common.{◌≡◌, ◌≢◌, ◌<◌, ◌-◌, length, map, ◌++◌, ◌∷◌, [], drop, arith}
use Rattle.std.proofs.lemmas.List.{append-nil}
use Rattle.std.proofs.lemmas.Grind.{common_steps}
use Rattle.eif_tree.specs.View.{group_view}
use Rattle.eif_grammar.specs.declared.terminal.Terminal.TheVariants as t
use Rattle.eif_grammar.specs.Goals.{group, local_groups, class_goal}
use Rattle.eif_grammar.specs.Outcomes.{got, refused, Calls}
use Rattle.eif_grammar.specs.Spelling.{head}
use Rattle.eif_parse_expr.proofs.Steps.{relay}
use Rattle.eif_parse.specs.ClassSubrules.{groups_view}
use Rattle.eif_parse.proofs.Lists.{behind, behind-more}
use Rattle.eif_parse.proofs.GroupSteps.{group_onward, no_local, local_refused, one_more_local}
use Rattle.eif_parse.proofs.groups.local_groups.Goals as goal

pub returns-in_err-one : goal.returns-in_err-one
returns-in_err-one c =
    let a = c.args in let all = a.tokens.now.tokens in let i = c.groups.invariant in let ts = drop c.groups.next all in
    let name : head ts ≡ t.Identifier = c.is_at.ensures.0 c.groups-test.true in
    relay (Calls (class_goal group) ts) (Calls (class_goal local_groups) (drop a.from all)) group_view groups_view all c.groups.next a.from _ _
    c.from_residual.ensures.1 c.in_err-one.ensures i.forward (λ rest r. i.goes_on (refused rest) (local_refused name r))

pub groups-smaller : goal.groups-smaller
groups-smaller c =
    let all = c.args.tokens.now.tokens in let r = c.in_ok-one.ensures in let s = c.semis-next.ensures in
    let less : length all - c.semis-next.result < length all - c.groups.next =
    omega (arith, group_onward all c.groups.next c.in_ok-one.one.next r.outcome r.within, r.within, s.forward, s.within) in less

pub groups-preserved : goal.groups-preserved
groups-preserved c =
    let i = c.groups.invariant in let one = c.in_ok-one.one in let r = c.in_ok-one.ensures in let s = c.semis-next.ensures in
    let before = map group_view c.groups.tree.items in let g = group_view one.tree in
    let pushed : map group_view c.push.new.self.items ≡ before ++ g ∷ [] = grind (arith, common_steps, c.in_ok-push.ensures.items) in
    let name : head (drop c.groups.next c.args.tokens.now.tokens) ≡ t.Identifier = c.is_at.ensures.0 c.groups-test.true in
    record {
      within = s.within;
      forward = omega (arith, i.forward, r.forward, s.forward);
      goes_on = λ u d. rw pushed (rw (behind-more before g u) at (i.goes_on (behind (g ∷ []) u) (one_more_local u name r.outcome s.outcome d)));
    }

pub returns : goal.returns
returns c =
    let a = c.args in let all = a.tokens.now.tokens in let i = c.groups.invariant in let ts = drop c.groups.next all in
    let before = map group_view c.groups.tree.items in
    let other : head ts ≢ t.Identifier = λ same. let yes = c.is_at.ensures.1 same in let no = c.groups-test.false in cc in
    let whole : Calls (class_goal local_groups) (drop a.from all) (got before ts) = rw (append-nil before) at (i.goes_on (got [] ts) (no_local other)) in
    record { outcome = whole; forward = i.forward; within = i.within }
