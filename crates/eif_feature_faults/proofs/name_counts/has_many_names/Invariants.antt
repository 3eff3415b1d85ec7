use Rattle.std.proofs.Common.{◌≡◌, ℕ, ◌≤◌, List, map, take, sum}
use Rattle.eif_base.specs.declared.limits.TheConstants.{MOST_ANCESTOR_NAMES}
use Rattle.eif_classes.specs.Descent as descent
use Rattle.eif_feature_rules.specs.FeatureRules.{count_names}
use Rattle.eif_heirs.specs.RowsAbove.{AreRowsAbove}
use Rattle.eif_rows.specs.Numbers.{class_numbers}
use Rattle.eif_system.specs.Lineage.{line_of}
use Rattle.eif_tree.specs.Tree.{ClassT}
use Rattle.eif_feature_faults.proofs.name_counts.has_many_names.Given as goal

abbrev pub invariant-ancestors : goal.invariant-ancestors
invariant-ancestors l = record {
  few : l.total ≤ MOST_ANCESTOR_NAMES;
  total_is : (u : List ClassT) (d : ℕ) → AreRowsAbove u l.rows d → class_numbers l.above ≡ descent.above (line_of u d)
      → l.total ≡ sum (map (count_names u) (take l.ancestor-index (class_numbers l.above)));
}
