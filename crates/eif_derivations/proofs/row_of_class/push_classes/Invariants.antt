use Rattle.std.proofs.Common.{◌≡◌, ◌++◌, drop, map}
use Rattle.eif_derivations.specs.ParentActuals.{classes_by}
use Rattle.eif_rows.specs.Numbers.{class_numbers}
use Rattle.eif_derivations.proofs.row_of_class.push_classes.Given as goal

abbrev pub invariant-ancestors : goal.invariant-ancestors
invariant-ancestors l =
    class_numbers l.out.items ++ map (λ d. d.class_id.0) (drop l.derivation-index l.clause.row.now.ancestors.items)
    ≡ class_numbers l.fn.out.items ++ classes_by l.clause
