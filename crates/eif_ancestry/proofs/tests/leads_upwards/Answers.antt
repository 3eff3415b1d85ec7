use Rattle.std.proofs.Common.{◌≡◌, ℕ, zero, suc, ◌<◌, ◌≤◌, ◌∙◌, true, List, [], ◌∷◌, length, ap, sym, subst, arith, rules, ⊎_elim}
use Rattle.std.proofs.lemmas.Bool.{cases_lt}
use Rattle.eif_system.specs.Graph.{is_member, parents_of, Climbs, HasNoCycle}
use Rattle.eif_ancestry.specs.Ancestries.{number_graph}
use Rattle.eif_ancestry.proofs.Climbing.{graph_length, parents_at}
use Rattle.eif_ancestry.proofs.tests.leads_upwards.Goals as goal

pub loop-d-preserved : goal.loop-d-preserved
loop-d-preserved c = λ k p h m.
    let d = c.loop-d.d in
    let g = c.args.graph.now in
    let v = c.index-graph-d.result in
    let between = c.all_between.ensures (search rules) p in
    ⊎_elim (λ (b : k < d). c.loop-d.invariant k p b m)
    (λ (b : d ≤ k).
    let same : k ≡ d = omega arith in
    let own : is_member p (parents_of (number_graph g) d) ≡ true =
    subst (λ k. is_member p (parents_of (number_graph g) k) ≡ true) same m in
    let ps = parents_at g d v c.loop-d-test.true c.index-graph-d.is ∙ sym c.as_slice.ensures.value in
    let up = (between (ap (is_member p) (sym ps) ∙ own)).0 in
    omega arith)
    (cases_lt k d)

-- where each parent has a greater number no way leads back
module _ (g : List (List ℕ)) (up : (d p : ℕ) → is_member p (parents_of g d) ≡ true → d < p) where
  climbs_up : (steps : List ℕ) (d a : ℕ) → Climbs g d steps a → d ≤ a
  climbs_up [] d a c = omega arith
  climbs_up (p ∷ steps) d a c =
      let h = up d p c.0 in
      let k = climbs_up steps p a c.1 in
      omega arith

  no_way_back : HasNoCycle g
  no_way_back d p m r =
      let h = up d p m in
      let k = climbs_up r.0 p d r.1 in
      omega arith

has_class : (g : List (List ℕ)) (d p : ℕ) → is_member p (parents_of g d) ≡ true → d < length g
has_class [] d p m = cc
has_class (ps ∷ g) zero p m = omega arith
has_class (ps ∷ g) (suc d) p m = let h = has_class g d p m in omega arith

pub returns : goal.returns
returns c = λ _.
    let g = number_graph c.args.graph.now in
    let long : length g ≡ length c.args.graph.now = graph_length c.args.graph.now in
    no_way_back g (λ d p m. let h = has_class g d p m in c.loop-d.invariant d p (omega arith) m)
