-- The proper ancestors of classes, listed.
use Rattle.std.specs.Prelude.{◌≡◌, ℕ, List, length, map, Some, slice_get, Vec}
use Rattle.std.specs.List.Sorted.{IsStrictlyIncreasing}
use Rattle.eif_system.specs.Graph.{IsProperAncestor, IsListOf}

-- the graph of the classes with these lists of parents
abbrev pub number_graph : {Z : Type 0} → List (Vec ℕ Z) → List (List ℕ)
number_graph parents = map (λ v. v.items) parents

-- the numbers with P by rising number, each once
pub record IsRisingListOf (P : ℕ → Type 0) (xs : List ℕ) : Type 0 where
  pub rising : IsStrictlyIncreasing xs
  pub list : IsListOf P xs

-- for each class the list of its proper ancestors
pub record AreAncestries (g rows : List (List ℕ)) : Type 0 where
  pub long : length rows ≡ length g
  pub each : (d : ℕ) (xs : List ℕ) → slice_get rows d ≡ Some xs → IsRisingListOf (IsProperAncestor g d) xs
