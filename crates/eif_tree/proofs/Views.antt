use Rattle.std.proofs.Common.{◌≡◌, map, rules}
use Rattle.eif_tree.specs.declared.tree.TypeTree.{TypeTree, out-TypeTree, the_lemmas}
use Rattle.eif_tree.specs.Tree.{type_at}
use Rattle.eif_tree.specs.View.{type_view, types_from}

-- a type, one level opened
pub type_view-opened : (t : TypeTree) →
    type_view t ≡ type_at (out-TypeTree t).place (out-TypeTree t).name_place (out-TypeTree t).mark (out-TypeTree t).name (types_from (map type_view (out-TypeTree t).actuals.items))
type_view-opened t = search (rules, the_lemmas)
