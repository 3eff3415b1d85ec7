use Rattle.std.proofs.Common.{◌≡◌, ℕ, List, take, map}
use Rattle.eif_tree.specs.View.{export_view}
use Rattle.eif_adapt.specs.FirstPlaces.{place_of, first_place}
use Rattle.eif_adapt.specs.NamedItems.{names_item}
use Rattle.eif_adapt.proofs.indexed_clause.first_exports.Given as goal

abbrev pub invariant-exports : goal.invariant-exports
invariant-exports l = (n : List ℕ)
    → place_of l.places n ≡ first_place (names_item n) (map export_view (take l.i l.exports))
