use Rattle.std.proofs.Common.{◌≡◌, ◌++◌, take}
use Rattle.std.specs.Prelude.{flat_map}
use Rattle.eif_classes.specs.Descent.{above}
use Rattle.eif_feature_rules.specs.ReplicationRules.{ancestor_body_faults}
use Rattle.eif_system.specs.Lineage.{line_of}
use Rattle.eif_tree.specs.View.{class_view}
use Rattle.eif_universe.specs.Universes.{classes_of}
use Rattle.eif_feature_faults.proofs.replication.push_replication_faults.Given as goal

abbrev pub invariant-ancestors : goal.invariant-ancestors
invariant-ancestors l =
    let u = classes_of l.u in let own = line_of u l.heir.class_id.0 in
    l.out ≡ l.initial.out
    ++ flat_map (ancestor_body_faults u (class_view l.heir.tree.now) own) (take l.becomes-index (above own))
