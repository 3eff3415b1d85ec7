use Rattle.std.proofs.Common.{get_or}
use Rattle.eif_base.specs.declared.class_id.ClassId.{ClassId}
use Rattle.eif_derivations.specs.ListNumbers.{lists_of}
use Rattle.eif_derivations.proofs.DerivationLists.{keeps_further}
use Rattle.eif_derivations.proofs.RowsInTurn.{number_at, one_derivation_more, one_fault_more}
use Rattle.eif_rows.specs.Numbers.{class_numbers}
use Rattle.eif_tree.specs.View.{class_view}
use Rattle.eif_universe.specs.Universes.{classes_of}
use Rattle.eif_derivations.proofs.row_of_class.push_derivations.Goals as goal

pub push_derivation-requires : goal.push_derivation-requires
push_derivation-requires c =
    let i = c.ancestors.k-index in
    let none : ClassId = record { 0 = 0 } in
    c.requires i (get_or c.args.ancestors.now i none).0 (number_at c.args.ancestors.now i none c.ancestors-test.true)

pub ancestors-preserved : goal.ancestors-preserved
ancestors-preserved c =
    let u = classes_of c.args.u.now in
    let class = class_view c.args.class.now in
    let start = lists_of c.args.lists.now in
    let lists = lists_of c.ancestors.lists in
    let more = lists_of c.push_derivation.new.lists in
    let xs = c.args.clauses.now in
    let ks = class_numbers c.args.ancestors.now in
    let i = c.ancestors.k-index in
    let none : ClassId = record { 0 = 0 } in
    let k = (get_or c.args.ancestors.now i none).0 in
    let here = number_at c.args.ancestors.now i none c.ancestors-test.true in
    let before = c.ancestors.invariant in
    let added = c.in_ok-push_derivation.ensures in
    record {
      kept = keeps_further start lists more before.kept added.kept;
      derivations = one_derivation_more u class xs start ks lists more before.kept added.kept i k here
          c.ancestors.derivations.items c.push_derivation.new.derivations.items before.derivations added.derivation;
      faults = one_fault_more u class xs start ks lists more before.kept added.kept i k here c.args.out.now
          c.ancestors.out c.push_derivation.new.out before.faults added.faults;
    }
