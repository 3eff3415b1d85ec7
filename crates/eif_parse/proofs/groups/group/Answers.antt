use Rattle.std.proofs.Common.{drop, arith}
use Rattle.eif_tree.specs.View.{group_view, type_view}
use Rattle.eif_grammar.specs.Goals.{written, group, type_goal, class_goal}
use Rattle.eif_grammar.specs.Parts.{most_height}
use Rattle.eif_grammar.specs.Outcomes.{got, Runs, Calls}
use Rattle.eif_parse_expr.proofs.Steps.{relay, relay_name}
use Rattle.eif_parse.specs.ClassSubrules as rule
use Rattle.eif_parse.proofs.GroupSteps.{no_group, group_unnamed, group_untyped, group_whole}
use Rattle.eif_parse.proofs.groups.group.Goals as goal

pub returns-in_err-first : goal.returns-in_err-first
returns-in_err-first c =
    let a = c.args in let all = a.tokens.now.tokens in
    relay_name (Calls (class_goal group) (drop a.from all)) group_view all a.from a.from _ _ c.from_residual.ensures.1 c.in_err-first.ensures (omega arith) c.requires no_group

pub returns-in_err-names : goal.returns-in_err-names
returns-in_err-names c =
    let a = c.args in let all = a.tokens.now.tokens in let first = c.in_ok-first.first in let name = c.in_ok-first.ensures in
    relay (Runs (rule.names_behind c.in_ok-vec.field-0.items) (drop first.next all)) (Calls (class_goal group) (drop a.from all)) rule.names_view group_view all first.next a.from _ _
    c.from_residual-in_err-names.ensures.1 c.in_err-names.ensures (omega (arith, name.0.behind)) (λ rest r. group_unnamed name.0 (rw (c.in_ok-vec.ensures.items, name.1) at r))

pub returns-in_err-written : goal.returns-in_err-written
returns-in_err-written c =
    let a = c.args in let all = a.tokens.now.tokens in let name = c.in_ok-first.ensures in let ns = c.in_ok-names.names in let n = c.in_ok-names.ensures in
    relay (Calls (type_goal (written most_height)) (drop ns.next all)) (Calls (class_goal group) (drop a.from all)) type_view group_view all ns.next a.from _ _
    c.from_residual-in_err-written.ensures.1 c.in_err-written.ensures.reads (omega (arith, name.0.behind, n.forward)) (λ rest r. group_untyped name.0 (rw (c.in_ok-vec.ensures.items, name.1) at n.outcome) r)

pub returns : goal.returns
returns c =
    let a = c.args in let all = a.tokens.now.tokens in let name = c.in_ok-first.ensures in let n = c.in_ok-names.ensures in
    let r = c.in_ok-written.ensures.reads in
    let whole : Calls (class_goal group) (drop a.from all) (got (group_view c.written_group.result) (drop c.in_ok-written.written.next all)) =
    rw (c.written_group.ensures) (group_whole name.0 (rw (c.in_ok-vec.ensures.items, name.1) at n.outcome) r.outcome) in
    record { outcome = whole; forward = omega (arith, name.0.behind, n.forward, r.forward); within = r.within }
