use Rattle.std.proofs.Common.{◌≡◌, ◌++◌, List, map, drop}
use Rattle.std.specs.List.{flat_map}
use Rattle.eif_redecl.specs.EntryViews.{entry_view, faults_beside}
use Rattle.eif_signatures.specs.SignatureViews.{signature_view}
use Rattle.eif_tree.specs.Tree.{ClassT}
use Rattle.eif_tree.specs.View.{class_view}
use Rattle.eif_types.specs.TypeTables.{AreTypesOf}
use Rattle.eif_redecl.proofs.entry.Heir.push_beside_each.Given as goal

abbrev pub invariant-entries : goal.invariant-entries
invariant-entries l =
    (u : List ClassT) → AreTypesOf u l.self.system.types.now
    → l.out ++ flat_map (faults_beside u l.self.class_id.0 (class_view l.self.class.now) l.declared.name.now
    l.declared.is_attribute (signature_view l.declared.signature.now)) (map entry_view (drop l.entry-index l.entries))
    ≡ l.initial.out ++ flat_map (faults_beside u l.self.class_id.0 (class_view l.self.class.now) l.declared.name.now
    l.declared.is_attribute (signature_view l.declared.signature.now)) (map entry_view l.entries)
