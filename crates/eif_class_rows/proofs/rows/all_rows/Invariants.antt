use Rattle.std.proofs.Common.{◌≡◌, ◌++◌, map, Some}
use Rattle.eif_class_rows.proofs.rows.all_rows.Given as goal

abbrev pub invariant-rows : goal.invariant-rows
invariant-rows l =
    record {
      all_are : map Some l.all.items ≡ l.yielded;
      left : l.fn.rows.items ≡ l.yielded ++ l.row-iterator.rest.items;
    }
