-- Types in order and as a list.
use Rattle.std.proofs.Common.{◌≡◌, List, [], ◌∷◌, refl, ap}
use Rattle.eif_tree.specs.Tree.{TypeT}
use Rattle.eif_tree.specs.View.{types_from}
use Rattle.eif_system.specs.WrittenTypes.{type_list}

pub type_list-types_from : (ts : List TypeT) → type_list (types_from ts) ≡ ts
type_list-types_from [] = refl
type_list-types_from (t ∷ ts) = ap (λ (l : List TypeT). t ∷ l) (type_list-types_from ts)
