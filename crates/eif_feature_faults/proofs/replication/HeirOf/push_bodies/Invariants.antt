use Rattle.std.proofs.Common.{◌≡◌, ℕ, List, ◌++◌, map, take}
use Rattle.std.specs.Prelude.{flat_map}
use Rattle.eif_feature_faults.specs.DeclaredViews.{declared_view}
use Rattle.eif_feature_faults.specs.Replicated.{IsHeirOf}
use Rattle.eif_feature_rules.specs.ReplicationRules.{replicated_body}
use Rattle.eif_rows.specs.Systems.{IsSystem}
use Rattle.eif_system.specs.Lineage.{line_of}
use Rattle.eif_tree.specs.Tree.{ClassT}
use Rattle.eif_tree.specs.View.{class_view}
use Rattle.eif_feature_faults.proofs.replication.HeirOf.push_bodies.Given as goal

abbrev pub invariant-declared : goal.invariant-declared
invariant-declared l =
    (u : List ClassT) (d k : ℕ) → IsSystem u → IsHeirOf u d k l.self
    → l.out ≡ l.initial.out
    ++ flat_map (replicated_body (class_view l.self.tree.now) (line_of u d) k)
    (take l.x-index (map declared_view l.x-items))
