use Rattle.std.proofs.Common.{◌≡◌, drop}
use Rattle.std.specs.List.{list_all}
use Rattle.eif_class_rows.specs.Filling.{has_row}
use Rattle.eif_rows.specs.Numbers.{class_numbers}
use Rattle.eif_class_rows.proofs.rows.have_rows.Given as goal

abbrev pub invariant-classes : goal.invariant-classes
invariant-classes l =
    list_all (has_row l.rows) (class_numbers (drop l.class_id-index l.classes))
    ≡ list_all (has_row l.rows) (class_numbers l.classes)
