use Rattle.std.proofs.Common.{◌≡◌, ◌++◌, List, map, take}
use Rattle.std.specs.Prelude.{flat_map}
use Rattle.eif_classes.specs.Entries.{Feature}
use Rattle.eif_feature_faults.specs.Versions.{HasVersion}
use Rattle.eif_feature_rules.specs.FeatureRules.{origin_faults}
use Rattle.eif_rows.specs.Matched.{Match}
use Rattle.eif_tree.specs.Tree.{ClassT}
use Rattle.eif_tree.specs.View.{class_view}
use Rattle.eif_feature_faults.proofs.names.push_origin_faults.Given as goal

abbrev pub invariant-names : goal.invariant-names
invariant-names l =
    (u : List ClassT) (fs : List Feature) → l.names ≡ map (λ f. f.name) fs → Match (HasVersion u) l.drafts fs
    → l.out ≡ l.initial.out ++ flat_map (origin_faults (class_view l.class)) (take l.i fs)
