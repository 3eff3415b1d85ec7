-- What becomes of the features of an ancestor in a class.
use Rattle.std.specs.Prelude.{◌≡◌, ℕ, ◌==◌, Bool, List, map, Option, Some, None, slice_get, slice_index_or}
use Rattle.std.specs.Option.{option_and_then, option_map_or, option_to_list}
use Rattle.indexmap.specs.IndexMap.{get_by}
use Rattle.eif_base.specs.declared.feat_id.FeatId.{FeatId}
use Rattle.eif_classes.specs.Binding.{bind, reach}
use Rattle.eif_classes.specs.Features.{names}
use Rattle.eif_rows.specs.Numbers.{name_of, names_of}
use Rattle.eif_rows.specs.declared.ancestor_row.AncestorRow.{AncestorRow}
use Rattle.eif_system.specs.Lineage.{Line, line_of}
use Rattle.eif_tree.specs.Tree.{ClassT}

-- the name that dynamic binding uses for the ancestor's feature with that number
abbrev pub bound_at : AncestorRow → ℕ → Option FeatId
bound_at r i = slice_index_or r.bound.items i None

-- all names of that feature: those that are kept, and where none are the one that is bound
abbrev pub reached_at : AncestorRow → ℕ → List FeatId
reached_at r i =
    option_map_or (λ names. names.items) (get_by (λ k. i == k) r.several) (option_to_list (bound_at r i))

-- in the class with this line, of the features of the ancestor k
pub record IsAncestorRow (u : List ClassT) (l : Line) (r : AncestorRow) (k : ℕ) : Type 0 where
  pub class : r.class_id.0 ≡ k
  pub bound : map (λ f. option_and_then (name_of (names l)) f) r.bound.items ≡ map (bind l k) (names (line_of u k))
  pub reached : (i : ℕ) (m : List ℕ) → slice_get (names (line_of u k)) i ≡ Some m
      → names_of (names l) (reached_at r i) ≡ map Some (reach l k m)
