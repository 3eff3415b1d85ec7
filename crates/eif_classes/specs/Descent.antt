-- Whom a class descends from.
use Rattle.std.specs.Prelude.{ℕ, ◌==◌, Bool, false, ◌||◌, List, [], ◌++◌, Option, Some, None}
use Rattle.std.specs.List.{cons_option}
use Rattle.std.specs.Ordering.{nat_cmp}
use Rattle.eif_system.specs.Lineage.{Line, line, cut, Ups, up, top}
use Rattle.eif_classes.specs.RisingLists.{in_order}

-- the number of the class
abbrev pub class_of : Line → Option ℕ
class_of (line d c ups) = Some d
class_of cut = None

abbrev mutual
  -- the class is k or descends from it
  pub descends : Line → ℕ → Bool
  descends (line d c ups) k = (d == k) || any_descends ups k
  descends cut k = false

  -- the class of some clause is k or descends from it
  pub any_descends : Ups → ℕ → Bool
  any_descends top k = false
  any_descends (up p l rest) k = descends l k || any_descends rest k

abbrev mutual
  -- the set of the numbers of the proper ancestors
  pub above : Line → List ℕ
  above (line d c ups) = in_order nat_cmp (all_above ups)
  above cut = []

  -- the same of all clauses, one after the other
  pub all_above : Ups → List ℕ
  all_above top = []
  all_above (up p l rest) = cons_option (class_of l) (above l ++ all_above rest)
