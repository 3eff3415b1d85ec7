use Rattle.std.proofs.Common.{◌≤◌, length, get_or, sym, subst, arith}
use Rattle.std.proofs.lemmas.List.{append-nil, length-map, take_all}
use Rattle.eif_base.specs.declared.class_id.ClassId.{ClassId}
use Rattle.eif_class_rows.proofs.InOrder.{filled_more, filled_none, in_universe, next_rows, number_at}
use Rattle.eif_class_rows.specs.Filling.{AreFilled, AreRowsFor, HasNone}
use Rattle.eif_feature_faults.proofs.InTurn.{added_all, added_more}
use Rattle.eif_feature_rules.specs.FeaturePhases.{feature_faults}
use Rattle.eif_rows.specs.Numbers.{class_numbers}
use Rattle.eif_system.specs.Lineage.{line_of}
use Rattle.eif_universe.specs.Universes.{classes_of}
use Rattle.eif_class_rows.proofs.phase.filled.Goals as goal

pub order-init : goal.order-init
order-init c = record {
  rows_are = filled_none (classes_of c.args.u.now) c.in_ok-rows.rows.items
      (subst (λ n. HasNone n c.in_ok-rows.rows.items) c.class_count.ensures c.in_ok-rows.ensures);
  faults_are = sym (append-nil c.args.out.now);
}

pub judge_class-requires-clause-class : goal.judge_class-requires-clause-class
judge_class-requires-clause-class c =
    in_universe (classes_of c.args.u.now) (class_numbers c.args.order.now) c.requires.order c.order.class_id-index _
    (number_at c.args.order.now c.order.class_id-index c.order-test.true)

pub judge_class-requires-clause-rows : goal.judge_class-requires-clause-rows
judge_class-requires-clause-rows c =
    let u = classes_of c.args.u.now in
    let i = c.order.class_id-index in
    let d = (get_or c.args.order.now i (record { 0 = 0 })).0 in
    subst (λ rs. AreRowsFor u rs d) (sym c.deref.ensures.value)
    (next_rows u (class_numbers c.args.order.now) i d (number_at c.args.order.now i c.order-test.true)
    c.order.rows.items c.order.invariant.rows_are c.requires.order)

pub index_mut-requires : goal.index_mut-requires
index_mut-requires c =
    let within = in_universe (classes_of c.args.u.now) (class_numbers c.args.order.now) c.requires.order
    c.order.class_id-index (get_or c.args.order.now c.order.class_id-index (record { 0 = 0 })).0
    (number_at c.args.order.now c.order.class_id-index c.order-test.true) in
    let long = c.order.invariant.rows_are.long in
    omega (arith, c.order.rows.ok.0)

pub order-preserved : goal.order-preserved
order-preserved c =
    let u = classes_of c.args.u.now in
    let order = class_numbers c.args.order.now in
    let i = c.order.class_id-index in
    let d = (get_or c.args.order.now i (record { 0 = 0 })).0 in
    let at = number_at c.args.order.now i c.order-test.true in
    let within = in_universe u order c.requires.order i d at in
    record {
      rows_are = filled_more u order i d at c.order.rows.items c.order.invariant.rows_are within c.in_ok-row.row
          c.in_ok-row.ensures.row;
      faults_are = added_more (λ d. feature_faults u (line_of u d)) c.args.out.now order i d c.order.out
          c.judge_class.new.out at c.order.invariant.faults_are c.in_ok-row.ensures.faults;
    }

pub returns : goal.returns
returns c =
    let u = classes_of c.args.u.now in
    let order = class_numbers c.args.order.now in
    let i = c.order.class_id-index in
    let past : length order ≤ i = omega (arith, length-map c.args.order.now (λ (x : ClassId). x.0)) in
    record {
      rows = subst (AreFilled u c.order.rows.items) (take_all i order past) c.order.invariant.rows_are;
      faults = added_all (λ d. feature_faults u (line_of u d)) c.args.out.now order i c.order.out past
          c.order.invariant.faults_are;
    }
