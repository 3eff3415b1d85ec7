use Rattle.std.proofs.Common.{◌≡◌, ◌++◌, map, drop}
use Rattle.std.specs.List.{flat_map}
use Rattle.eif_classes.specs.Resolution.{resolved}
use Rattle.eif_tree.specs.Tree.{GroupT}
use Rattle.eif_tree.specs.View.{class_view, group_view}
use Rattle.eif_type_forms.specs.View.{ty_view}
use Rattle.eif_universe.specs.Universes.{classes_of}
use Rattle.eif_signatures.proofs.signature.argument_types.Given as goal

abbrev pub invariant-groups : goal.invariant-groups
invariant-groups l =
    let types = λ (g : GroupT). map (λ n. resolved (classes_of l.u) (class_view l.class) g.type_tree) g.names in
    map ty_view l.types.items ++ flat_map types (map group_view (drop l.group-index l.groups))
    ≡ flat_map types (map group_view l.groups)
