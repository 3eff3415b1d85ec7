use Rattle.std.proofs.Common.{◌≡◌, ◌++◌, map, drop}
use Rattle.eif_classes.specs.Resolution.{resolved}
use Rattle.eif_tree.specs.View.{class_view, group_view}
use Rattle.eif_tree.specs.declared.tree.NameAt.{NameAt}
use Rattle.eif_type_forms.specs.View.{ty_view}
use Rattle.eif_universe.specs.Universes.{classes_of}
use Rattle.eif_signatures.proofs.signature.push_group.Given as goal

abbrev pub invariant-names : goal.invariant-names
invariant-names l =
    let t = resolved (classes_of l.u) (class_view l.class) (group_view l.group).type_tree in
    map ty_view l.out.items ++ map (λ (n : NameAt). t) (drop l.index l.items)
    ≡ map ty_view l.initial.out.items ++ map (λ (n : NameAt). t) l.items
