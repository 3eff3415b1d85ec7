use Rattle.std.proofs.Common.{◌≡◌, ℕ, List, take}
use Rattle.eif_tree.specs.Members.{has_name}
use Rattle.eif_adapt.specs.FirstPlaces.{place_of, or_place}
use Rattle.eif_adapt.proofs.indexed_clause.add_all.Given as goal

abbrev pub invariant-names : goal.invariant-names
invariant-names l = (n : List ℕ)
    → place_of l.places n ≡ or_place (place_of l.initial.places n) (has_name (take l.name-index l.names) n) l.place
