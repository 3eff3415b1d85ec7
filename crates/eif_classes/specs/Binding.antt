-- The names of an ancestor's feature in a class, and the one that dynamic binding uses.
use Rattle.std.specs.Prelude.{ℕ, ◌==◌, Bool, if◌then◌else◌, List, [], ◌++◌, map, Option, Some, None}
use Rattle.std.specs.List.{cons_option, filter, list_any}
use Rattle.std.specs.Option.{option_map, option_or, option_to_list}
use Rattle.eif_tree.specs.Tree.{ParentT}
use Rattle.eif_classes.specs.Features.{has_feature}
use Rattle.eif_system.specs.Inheritance.{clauses}
use Rattle.eif_system.specs.Lineage.{Line, line, cut, Ups, up, top}
use Rattle.eif_classes.specs.Names.{name_set, agreed, final_name, is_selected}

-- the name, where the class has it
abbrev pub own_name : Line → List ℕ → Option (List ℕ)
own_name l m = if has_feature l m then Some m else None

abbrev mutual
  -- the set of the names that k's feature m has in the class along all paths
  pub reach : Line → ℕ → List ℕ → List (List ℕ)
  reach (line d c ups) k m =
      if d == k then option_to_list (own_name (line d c ups) m) else name_set (reached ups k m)
  reach cut k m = []

  -- the same of all clauses, one after the other
  pub reached : Ups → ℕ → List ℕ → List (List ℕ)
  reached top k m = []
  reached (up p l rest) k m = map (final_name p) (reach l k m) ++ reached rest k m

-- some clause selects the name
abbrev pub is_selected_in : List ParentT → List ℕ → Bool
is_selected_in ps n = list_any (λ p. is_selected p n) ps

-- one candidate, or of several the one that is selected
abbrev pub picked : List ParentT → List (List ℕ) → Option (List ℕ)
picked ps ns = option_or (agreed ns) (agreed (filter (is_selected_in ps) ns))

abbrev mutual
  -- the name that k's feature m has in the class by dynamic binding
  pub bind : Line → ℕ → List ℕ → Option (List ℕ)
  bind (line d c ups) k m =
      if d == k then own_name (line d c ups) m else picked (clauses c) (candidates ups k m)
  bind cut k m = None

  -- the same by each clause whose class is k or descends from it
  pub candidates : Ups → ℕ → List ℕ → List (List ℕ)
  candidates top k m = []
  candidates (up p l rest) k m =
      cons_option (option_map (final_name p) (bind l k m)) (candidates rest k m)
