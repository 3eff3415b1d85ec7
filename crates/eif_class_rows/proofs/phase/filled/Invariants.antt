use Rattle.std.proofs.Common.{◌≡◌, ◌++◌, take}
use Rattle.eif_class_rows.specs.Filling.{AreFilled}
use Rattle.eif_rows.specs.Numbers.{class_numbers}
use Rattle.eif_table_laws.specs.WholeClasses.{faults_by}
use Rattle.eif_universe.specs.Universes.{classes_of}
use Rattle.eif_class_rows.proofs.phase.filled.Given as goal

abbrev pub invariant-order : goal.invariant-order
invariant-order l =
    record {
      rows_are : AreFilled (classes_of l.u) l.rows.items (take l.class_id-index (class_numbers l.order));
      faults_are : l.out ≡ l.initial.out ++ faults_by (classes_of l.u) (take l.class_id-index (class_numbers l.order));
    }
