-- The walk from a class to its parents, to theirs, and so on.
use Rattle.std.specs.Prelude.{◌≡◌, ℕ, ◌==◌, Bool, true, false, List, length, Some, slice_get, slice_index_or}
use Rattle.std.specs.List.{IsDistinct}
use Rattle.eif_system.specs.Graph.{is_member, Reaches}

-- the mark of a number, none past the last
abbrev pub has_mark : List Bool → ℕ → Bool
has_mark marks a = slice_index_or marks a false

-- a mark for each number below n, and none is set
pub record IsClear (n : ℕ) (met : List ℕ) (marks : List Bool) : Type 0 where
  pub long : length marks ≡ n
  pub none : (a : ℕ) → has_mark marks a ≡ false
  pub empty : length met ≡ 0

-- the numbers met, each once, are those below n that have a mark
pub record IsTidy (n : ℕ) (met : List ℕ) (marks : List Bool) : Type 0 where
  pub long : length marks ≡ n
  pub distinct : IsDistinct ◌==◌ met
  pub marked : (a : ℕ) → has_mark marks a ≡ is_member a met

-- the class d first, and then its proper ancestors
pub record IsWholeWalk (g : List (List ℕ)) (d : ℕ) (met : List ℕ) : Type 0 where
  pub first : slice_get met 0 ≡ Some d
  pub only : (a : ℕ) → is_member a met ≡ true → Reaches g d a
  pub each : (a : ℕ) → Reaches g d a → is_member a met ≡ true
