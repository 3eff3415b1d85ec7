-- Types of a class text and what they mean.
use Rattle.std.proofs.Common.{◌≡◌, ℕ, ◌+◌, ◌≤◌, cond, List, [], ◌∷◌, ◌++◌, length, drop, map, None, refl, sym, ap, ◌∙◌}
use Rattle.std.specs.List.{position_from}
use Rattle.std.specs.Str.{bytes_eq}
use Rattle.eif_classes.specs.Resolution.{formal_number, type_of_class, type_denoted, resolved, all_resolved}
use Rattle.eif_classes.specs.Types.{and_actual}
use Rattle.eif_system.specs.Universe.{class_number}
use Rattle.eif_tree.proofs.Views.{type_view-opened}
use Rattle.eif_tree.specs.Tree.{ClassT, TypeT}
use Rattle.eif_tree.specs.View.{formal_view, type_view, types_from}
use Rattle.eif_tree.specs.declared.class.FormalTree.{FormalTree}
use Rattle.eif_tree.specs.declared.tree.TypeTree.{TypeTree, out-TypeTree}
use Rattle.eif_type_forms.specs.declared.ty.Ty.{Ty}
use Rattle.eif_type_forms.proofs.Views.{all_viewed}
use Rattle.eif_type_forms.specs.View.{ty_view, actuals_from, actuals_view}

-- a formal is found by its name in the same place as its view
pub position_of_view : (n : List ℕ) (i : ℕ) (fs : List FormalTree)
    → position_from (λ f. bytes_eq f.name n) i fs ≡ position_from (λ f. bytes_eq f.name n) i (map formal_view fs)
position_of_view n i [] = refl
position_of_view n i (f ∷ fs) = ap (cond (bytes_eq f.name n) _) (position_of_view n (i + 1) fs)

-- a type whose name is that of no formal
pub resolved_class : (u : List ClassT) (c : ClassT) (tree : TypeTree) → None ≡ formal_number c (out-TypeTree tree).name
    → resolved u c (type_view tree)
    ≡ type_of_class (class_number u (out-TypeTree tree).name) (out-TypeTree tree).mark
    (all_resolved u c (types_from (map type_view (out-TypeTree tree).actuals.items)))
resolved_class u c tree h =
    let t = out-TypeTree tree in
    let actuals = all_resolved u c (types_from (map type_view t.actuals.items)) in
    ap (resolved u c) (type_view-opened tree) ∙ ap (λ o. type_denoted o (class_number u t.name) t.mark actuals) (sym h)

-- types resolved one by one
resolved_each : (u : List ClassT) (c : ClassT) (ts : List TypeT)
    → all_resolved u c (types_from ts) ≡ actuals_from (map (resolved u c) ts)
resolved_each u c [] = refl
resolved_each u c (t ∷ ts) = ap (and_actual (resolved u c t)) (resolved_each u c ts)

-- all are resolved once no tree is left
pub all_done : (u : List ClassT) (c : ClassT) (trees : List TypeTree) (types : List Ty) (i : ℕ) → length trees ≤ i
    → map ty_view types ++ map (resolved u c) (map type_view (drop i trees)) ≡ map (resolved u c) (map type_view trees)
    → actuals_view types ≡ all_resolved u c (types_from (map type_view trees))
all_done u c trees types i h e =
    ap actuals_from (all_viewed (λ us. map (resolved u c) (map type_view us)) refl trees types i h e)
    ∙ sym (resolved_each u c (map type_view trees))
