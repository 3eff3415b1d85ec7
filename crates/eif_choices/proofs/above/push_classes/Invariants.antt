use Rattle.std.proofs.Common.{◌≡◌, ◌++◌, drop, map}
use Rattle.eif_choices.specs.Ancestors.{classes_by}
use Rattle.eif_rows.specs.Numbers.{class_numbers}
use Rattle.eif_choices.proofs.above.push_classes.Given as goal

abbrev pub invariant-ancestors : goal.invariant-ancestors
invariant-ancestors l =
    class_numbers l.out.items ++ map (λ r. r.class_id.0) (drop l.ancestor-index l.clause.row.now.ancestors.items)
    ≡ class_numbers l.fn.out.items ++ classes_by l.clause
