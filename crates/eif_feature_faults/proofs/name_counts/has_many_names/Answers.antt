use Rattle.std.proofs.Common.{◌≡◌, ℕ, ◌+◌, ◌<◌, ◌≤◌, map, length, take, sum, ap, ◌∙◌, arith}
use Rattle.std.proofs.lemmas.List.{length-map, take_all}
use Rattle.eif_base.specs.declared.class_id.ClassId.{ClassId}
use Rattle.eif_base.specs.declared.limits.TheConstants.{MOST_ANCESTOR_NAMES}
use Rattle.eif_feature_rules.specs.FeatureRules.{count_names}
use Rattle.eif_rows.specs.Numbers.{class_numbers}
use Rattle.eif_feature_faults.proofs.InTurn.{is_over, is_within, sum-take-le}
use Rattle.eif_feature_faults.proofs.NameCounts.{total-next}
use Rattle.eif_feature_faults.proofs.name_counts.has_many_names.Goals as goal

pub returns-then-total : goal.returns-then-total
returns-then-total c = λ u d rows are.
    let ids = c.args.above.now in
    let i = c.ancestors.ancestor-index in
    let so_far = total-next u d c.args.rows.now ids i c.ancestors.total c.name_count-total.result rows are
    c.ancestors-test.true (c.ancestors.invariant.total_is u d rows are) (c.name_count-total.ensures.count u) in
    let within = sum-take-le (count_names u) (class_numbers ids) (i + 1) in
    is_over MOST_ANCESTOR_NAMES (sum (map (count_names u) (class_numbers ids))) (omega arith)

pub ancestors-preserved : goal.ancestors-preserved
ancestors-preserved c = record {
  few = c.if-total.false;
  total_is = λ u d rows are.
      total-next u d c.args.rows.now c.args.above.now c.ancestors.ancestor-index c.ancestors.total
      c.name_count-total.result rows are c.ancestors-test.true (c.ancestors.invariant.total_is u d rows are)
      (c.name_count-total.ensures.count u);
}

pub returns : goal.returns
returns c = λ u d rows are.
    let ids = c.args.above.now in
    let all : length (class_numbers ids) ≤ c.ancestors.ancestor-index =
    omega (arith, length-map ids (λ (x : ClassId). x.0)) in
    let total = c.ancestors.invariant.total_is u d rows are
    ∙ ap (λ ks. sum (map (count_names u) ks)) (take_all c.ancestors.ancestor-index (class_numbers ids) all) in
    is_within MOST_ANCESTOR_NAMES (sum (map (count_names u) (class_numbers ids))) (omega arith)
