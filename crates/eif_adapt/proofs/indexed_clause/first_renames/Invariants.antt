use Rattle.std.proofs.Common.{◌≡◌, ℕ, List, take}
use Rattle.eif_adapt.specs.FirstPlaces.{place_of, first_place}
use Rattle.eif_adapt.specs.NamedItems.{has_old_name}
use Rattle.eif_adapt.proofs.indexed_clause.first_renames.Given as goal

abbrev pub invariant-renames : goal.invariant-renames
invariant-renames l = (n : List ℕ) → place_of l.places n ≡ first_place (has_old_name n) (take l.i l.renames)
