use Rattle.std.proofs.Common.{List}
use Rattle.eif_class_rows.proofs.Fields.{AreFields}
use Rattle.eif_classes.specs.Entries.{Feature}
use Rattle.eif_rows.specs.Matched.{Match}
use Rattle.eif_rows.specs.Versions.{IsVersion}
use Rattle.eif_tree.specs.Tree.{ClassT}
use Rattle.eif_class_rows.proofs.class_row.field_numbers.Given as goal

abbrev pub invariant-features : goal.invariant-features
invariant-features l =
    (u : List ClassT) (fs : List Feature) → Match (λ r f. IsVersion u r.version f.origin) l.features fs
    → AreFields fs l.i l.fields.items
