use Rattle.std.proofs.Common.{List, ◌++◌, take}
use Rattle.eif_classes.specs.Features.{features}
use Rattle.eif_classes.specs.Signatures.{SignedEntry}
use Rattle.eif_redecl.specs.SeenClauses.{AreGroups, signed_by}
use Rattle.eif_signatures.specs.DerivedSystems.{classes_in}
use Rattle.eif_system.specs.Lineage.{line_of}
use Rattle.eif_tree.specs.View.{class_view, parent_view}
use Rattle.eif_redecl.proofs.entry.Heir.add_clause.Given as goal

abbrev pub invariant-features : goal.invariant-features
invariant-features l =
    let u = classes_in l.self.system in
    let d = l.self.class_id.0 in
    let k = line_of u l.fn.parent.0 in
    (es : List SignedEntry) → AreGroups u d l.initial.groups.groups.items es
    → AreGroups u d l.groups.groups.items (es ++ signed_by u (class_view l.self.class.now) (parent_view l.fn.tree) k
    (take l.feat (features k)))
