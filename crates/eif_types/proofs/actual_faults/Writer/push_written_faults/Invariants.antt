use Rattle.std.proofs.Common.{◌≡◌, ◌++◌, map, drop}
use Rattle.std.specs.Prelude.{flat_map}
use Rattle.eif_feature_rules.specs.DerivationRules.{actual_faults}
use Rattle.eif_types.specs.Writers.{class_of, universe_of}
use Rattle.eif_written.specs.LentTypes.{lent_type, owner_name}
use Rattle.eif_types.proofs.actual_faults.Writer.push_written_faults.Given as goal

abbrev pub invariant-types : goal.invariant-types
invariant-types l =
    let faults = actual_faults (universe_of l.self) l.self.class_id.0 (class_of l.self) (owner_name l.written.owner) in
    l.out ++ flat_map faults (map lent_type (drop l.tree-index l.tree-items))
    ≡ l.initial.out ++ flat_map faults (map lent_type l.tree-items)
