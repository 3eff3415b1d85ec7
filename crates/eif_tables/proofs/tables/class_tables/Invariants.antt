use Rattle.std.proofs.Common.{◌≡◌, ◌++◌}
use Rattle.eif_tables.specs.Numbered.{AreTablesOf}
use Rattle.eif_tables.proofs.tables.class_tables.Given as goal

abbrev pub invariant-rows : goal.invariant-rows
invariant-rows l =
    record {
      tables : AreTablesOf l.names l.classes.items l.yielded;
      left : l.fn.rows.items ≡ l.yielded ++ l.row-iterator.rest.items;
    }
