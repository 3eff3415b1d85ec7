use Rattle.std.proofs.Common.{◌≡◌, ◌++◌, map, drop}
use Rattle.std.specs.Prelude.{flat_map}
use Rattle.eif_feature_rules.specs.DerivationRules.{actual_faults}
use Rattle.eif_system.specs.WrittenTypes.{Written, nested}
use Rattle.eif_types.specs.Writers.{class_of, universe_of}
use Rattle.eif_written.specs.LentTypes.{written_view}
use Rattle.eif_types.proofs.actual_faults.Writer.push_faults.Given as goal

abbrev pub invariant-types : goal.invariant-types
invariant-types l =
    let faults = λ (w : Written).
    flat_map (actual_faults (universe_of l.self) l.self.class_id.0 (class_of l.self) w.feature) (nested w.type_tree) in
    l.out ++ flat_map faults (map written_view (drop l.written-index l.written-items))
    ≡ l.initial.out ++ flat_map faults (map written_view l.written-items)
