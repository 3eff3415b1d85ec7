use Rattle.std.proofs.Common.{◌≡◌, ◌<◌, ◌≤◌, ◌∙◌, true, ap, sym, subst, arith, rules, ⊎_elim}
use Rattle.std.proofs.lemmas.Bool.{cases_lt}
use Rattle.eif_system.specs.Graph.{is_member, parents_of}
use Rattle.eif_ancestry.specs.Ancestries.{number_graph}
use Rattle.eif_ancestry.proofs.Climbing.{parents_at}
use Rattle.eif_ancestry.proofs.tests.leads_to_classes.Goals as goal

pub loop-d-preserved : goal.loop-d-preserved
loop-d-preserved c = λ k p h m.
    let d = c.loop-d.d in
    let g = c.args.graph.now in
    let v = c.index-graph-d.result in
    let between = c.all_between.ensures (search rules) p in
    ⊎_elim (λ (b : k < d). c.loop-d.invariant k p b m)
    (λ (b : d ≤ k).
    let same : k ≡ d = omega arith in
    let own : is_member p (parents_of (number_graph g) d) ≡ true =
    subst (λ k. is_member p (parents_of (number_graph g) k) ≡ true) same m in
    let ps = parents_at g d v c.loop-d-test.true c.index-graph-d.is ∙ sym c.as_slice.ensures.value in
    (between (ap (is_member p) (sym ps) ∙ own)).1)
    (cases_lt k d)
