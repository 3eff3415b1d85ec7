use Rattle.eif_derivations.specs.ListNumbers.{Keeps, lists_of}
use Rattle.eif_derivations.proofs.RowsInTurn.{AreDerivationsSoFar, AreFaultsSoFar}
use Rattle.eif_rows.specs.Numbers.{class_numbers}
use Rattle.eif_tree.specs.View.{class_view}
use Rattle.eif_universe.specs.Universes.{classes_of}
use Rattle.eif_derivations.proofs.row_of_class.push_derivations.Given as goal

abbrev pub invariant-ancestors : goal.invariant-ancestors
invariant-ancestors l =
    let u = classes_of l.fn.u in
    let c = class_view l.fn.class in
    let start = lists_of l.fn.lists in
    let ks = class_numbers l.fn.ancestors in
    record {
      kept : Keeps start (lists_of l.lists);
      derivations : AreDerivationsSoFar u c l.fn.clauses start ks (lists_of l.lists) l.k-index l.derivations.items;
      faults : AreFaultsSoFar u c l.fn.clauses start ks l.fn.out l.k-index l.out;
    }
