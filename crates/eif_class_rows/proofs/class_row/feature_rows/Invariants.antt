use Rattle.std.proofs.Common.{◌≡◌, ◌++◌, map}
use Rattle.eif_class_rows.specs.ClassRows.{feature_row}
use Rattle.eif_class_rows.proofs.class_row.feature_rows.Given as goal

abbrev pub invariant-drafts : goal.invariant-drafts
invariant-drafts l =
    record {
      kept : l.rows.items ≡ map feature_row l.yielded;
      left : l.fn.drafts.items ≡ l.yielded ++ l.draft-iterator.rest.items;
    }
