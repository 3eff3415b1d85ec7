use Rattle.std.proofs.Common.{length, map, take}
use Rattle.std.specs.Prelude.{flat_map}
use Rattle.eif_redecl.specs.SeenClauses.{AreGroups, signed_of}
use Rattle.eif_signatures.specs.DerivedSystems.{classes_in}
use Rattle.eif_tree.specs.View.{class_view, parent_view}
use Rattle.eif_redecl.proofs.entry.Heir.entries_by.Given as goal

abbrev pub invariant-clauses : goal.invariant-clauses
invariant-clauses l =
    let u = classes_in l.fn.self.system in
    AreGroups u l.fn.self.class_id.0 l.groups.groups.items
    (flat_map (signed_of u (class_view l.fn.self.class.now))
    (map parent_view (take (length l.yielded) l.fn.self.clauses.now)))
