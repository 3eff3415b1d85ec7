use Rattle.std.proofs.Common.{◌≡◌, ◌++◌, map, drop}
use Rattle.eif_classes.specs.Constraints.{formal_constraint}
use Rattle.eif_tree.specs.View.{class_view, formal_view}
use Rattle.eif_type_forms.specs.View.{ty_view}
use Rattle.eif_universe.specs.Universes.{classes_of}
use Rattle.eif_types.proofs.constraints.constraints_of.Given as goal

abbrev pub invariant-formals : goal.invariant-formals
invariant-formals l =
    map ty_view l.constraints.items
    ++ map (formal_constraint (classes_of l.u) (class_view l.class)) (map formal_view (drop l.formal-index l.formal-items))
    ≡ map (formal_constraint (classes_of l.u) (class_view l.class)) (map formal_view l.formal-items)
