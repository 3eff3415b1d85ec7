use Rattle.std.proofs.Common.{◌≡◌, ◌+◌, ◌++◌, List, map, drop, Some, sym, ap, ◌∙◌, append_assoc}
use Rattle.std.proofs.lemmas.Option.{slice_get-get_or}
use Rattle.std.specs.List.{flat_map}
use Rattle.std.specs.Prelude.{slice_get}
use Rattle.eif_classes.specs.Resolution.{resolved}
use Rattle.eif_classes.specs.Types.{TyT}
use Rattle.eif_tree.specs.Tree.{GroupT}
use Rattle.eif_tree.specs.View.{class_view, group_view}
use Rattle.eif_tree.specs.declared.class.Group.{Group}
use Rattle.eif_type_forms.specs.View.{ty_view}
use Rattle.eif_types.proofs.Turns.{left_behind}
use Rattle.eif_universe.specs.Universes.{classes_of}
use Rattle.eif_signatures.proofs.signature.argument_types.Goals as goal

pub groups-preserved : goal.groups-preserved
groups-preserved c =
    let types = λ (g : GroupT). map (λ n. resolved (classes_of c.args.u.now) (class_view c.args.class.now) g.type_tree)
    g.names in
    let groups = c.args.groups.now in
    let i = c.groups.group-index in
    let g = c.group-item.result in
    let out = map ty_view c.groups.types.items in
    let rest = flat_map types (map group_view (drop (i + 1) groups)) in
    let at : slice_get groups i ≡ Some g =
    slice_get-get_or groups i g c.groups-test.true ∙ ap Some (sym c.group-item.is) in
    ap (λ (ts : List TyT). ts ++ rest) c.in_ok-push_group.ensures
    ∙ (append_assoc out (types (group_view g)) rest
    ∙ (ap (λ (gs : List Group). out ++ flat_map types (map group_view gs)) (sym (left_behind groups i g at))
    ∙ c.groups.invariant))
