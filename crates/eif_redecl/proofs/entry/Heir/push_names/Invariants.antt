use Rattle.std.proofs.Common.{◌≡◌, List, ◌++◌, take}
use Rattle.std.specs.Prelude.{flat_map}
use Rattle.eif_classes.specs.Features.{features}
use Rattle.eif_redecl.proofs.NameLaws.{judged_in}
use Rattle.eif_redecl.specs.SeenClauses.{AreEntries}
use Rattle.eif_signatures.specs.DerivedSystems.{classes_in}
use Rattle.eif_system.specs.Lineage.{line_of}
use Rattle.eif_tree.specs.View.{class_view}
use Rattle.eif_redecl.proofs.entry.Heir.push_names.Given as goal

abbrev pub invariant-names : goal.invariant-names
invariant-names l =
    let u = classes_in l.self.system in
    let d = l.self.class_id.0 in
    let k = line_of u d in
    AreEntries u d l.groups.groups.items
    → l.out ≡ l.initial.out ++ flat_map (judged_in u d (class_view l.self.class.now) k) (take l.number (features k))
