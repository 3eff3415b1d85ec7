use Rattle.std.proofs.Common.{get_or, Option, length-set, sym, subst, ◌∙◌, arith}
use Rattle.eif_base.specs.declared.class_id.ClassId.{ClassId}
use Rattle.eif_derivations.specs.Filled.{HaveDerivations}
use Rattle.eif_derivations.specs.ListNumbers.{lists_of}
use Rattle.eif_derivations.specs.declared.derivation.DerivationRow.{DerivationRow}
use Rattle.eif_derivations.proofs.Filling.{one_more_has, one_more_judged, order_within, parents_have}
use Rattle.eif_derivations.proofs.RowsInTurn.{number_at}
use Rattle.eif_rows.specs.Numbers.{class_numbers}
use Rattle.eif_system.specs.Inheritance.{parent_numbers}
use Rattle.eif_universe.specs.Universes.{classes_of}
use Rattle.eif_derivations.proofs.fill.fill_rows.Goals as goal

pub derive_class-requires-clause-class : goal.derive_class-requires-clause-class
derive_class-requires-clause-class c =
    let i = c.order.class_id-index in
    let none : ClassId = record { 0 = 0 } in
    order_within (classes_of c.args.u.now) (class_numbers c.args.order.now) c.requires.order i
    (get_or c.args.order.now i none).0 (number_at c.args.order.now i none c.order-test.true)

pub derive_class-requires-clause-rows : goal.derive_class-requires-clause-rows
derive_class-requires-clause-rows c = λ class at.
    let u = classes_of c.args.u.now in
    let i = c.order.class_id-index in
    let none : ClassId = record { 0 = 0 } in
    subst (λ rows. HaveDerivations u (lists_of c.order.lists) rows (parent_numbers u class)) (sym c.deref.ensures.value)
    (parents_have u (class_numbers c.args.order.now) c.requires.order (lists_of c.order.lists) c.order.rows.items i
    (get_or c.args.order.now i none).0 (number_at c.args.order.now i none c.order-test.true)
    c.order.invariant.rows.done_have class at)

pub index_mut-requires : goal.index_mut-requires
index_mut-requires c =
    let i = c.order.class_id-index in
    let none : ClassId = record { 0 = 0 } in
    let within = order_within (classes_of c.args.u.now) (class_numbers c.args.order.now) c.requires.order i
    (get_or c.args.order.now i none).0 (number_at c.args.order.now i none c.order-test.true) in
    let long = c.order.invariant.rows.long in
    omega (arith, c.order.rows.ok.0)

pub order-preserved : goal.order-preserved
order-preserved c =
    let u = classes_of c.args.u.now in
    let order = class_numbers c.args.order.now in
    let i = c.order.class_id-index in
    let none : ClassId = record { 0 = 0 } in
    let d = (get_or c.args.order.now i none).0 in
    let at = number_at c.args.order.now i none c.order-test.true in
    let before = c.order.invariant in
    let within = order_within u order c.requires.order i d at in
    let long = before.rows.long in
    record {
      rows = record {
        long = length-set {A = Option DerivationRow} _ _ _ ∙ long;
        done_have = one_more_has u order c.requires.order (lists_of c.order.lists) (lists_of c.derive_class.new.lists)
            c.derive_class.ensures.kept c.order.rows.items i d at (omega arith) c.in_ok-row.row c.in_ok-row.ensures.row
            before.rows.done_have;
      };
      faults = one_more_judged u order c.requires.order c.args.out.now c.order.out c.derive_class.new.out i d at
          before.faults c.in_ok-row.ensures.faults;
    }
