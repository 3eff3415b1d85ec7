use Rattle.std.proofs.Common.{◌≡◌, ◌++◌, map, drop}
use Rattle.eif_classes.specs.Resolution.{resolved}
use Rattle.eif_tree.specs.View.{class_view, type_view}
use Rattle.eif_type_forms.specs.View.{ty_view}
use Rattle.eif_universe.specs.Universes.{classes_of}
use Rattle.eif_type_forms.proofs.resolution.+resolve.Given as goal

abbrev pub invariant-resolve_all-types : goal.invariant-resolve_all-types
invariant-resolve_all-types l =
    map ty_view l.types.items
    ++ map (resolved (classes_of l.u) (class_view l.class)) (map type_view (drop l.tree-index l.trees))
    ≡ map (resolved (classes_of l.u) (class_view l.class)) (map type_view l.trees)
