use Rattle.std.proofs.Common.{map, sym, ap, ◌∙◌}
use Rattle.eif_classes.specs.Resolution.{type_of_class, all_resolved}
use Rattle.eif_system.specs.Universe.{class_number}
use Rattle.eif_tree.specs.View.{class_view, type_view, types_from}
use Rattle.eif_tree.specs.declared.tree.TypeTree.{out-TypeTree}
use Rattle.eif_type_forms.specs.View.{actuals_view}
use Rattle.eif_type_forms.proofs.Resolving.{resolved_class, all_done}
use Rattle.eif_universe.specs.Universes.{classes_of}
use Rattle.eif_type_forms.proofs.resolution.+resolve.Goals as goal

pub resolve-returns-in_ok-actuals-in-None : goal.resolve-returns-in_ok-actuals-in-None
resolve-returns-in_ok-actuals-in-None t c =
    let u = classes_of c.args.u.now in
    let class = class_view c.args.class.now in
    let tree = out-TypeTree c.args.tree.now in
    let resolved = c.in_ok-actuals-in-None in
    let trees = c.deref.ensures.value in
    let all = resolved.ensures ∙ ap (λ ts. all_resolved u class (types_from (map type_view ts))) trees in
    c.class_type.ensures
    ∙ (ap (λ k. type_of_class k tree.mark (actuals_view resolved.actuals.items)) c.class_named.ensures
    ∙ (ap (type_of_class (class_number u tree.name) tree.mark) all
    ∙ sym (resolved_class u class c.args.tree.now c.in-None.ensures.number)))

pub resolve_all-returns : goal.resolve_all-returns
resolve_all-returns t c =
    all_done (classes_of c.args.u.now) (class_view c.args.class.now) c.args.trees.now c.types.types.items
    c.types.tree-index c.types-test.false c.types.invariant
