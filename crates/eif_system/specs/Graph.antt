-- Inheritance as a graph: classes are numbers, and each has the list of the numbers of its parents.
use Rattle.std.specs.Prelude.{◌≡◌, ◌≢◌, ℕ, ◌<◌, Bool, true, false, ◌||◌, ◌==◌, List, [], ◌∷◌, length, Some, slice_get, slice_index_or}

abbrev pub is_member : ℕ → List ℕ → Bool
is_member x [] = false
is_member x (y ∷ ys) = (y == x) || is_member x ys

abbrev pub parents_of : List (List ℕ) → ℕ → List ℕ
parents_of g d = slice_index_or g d []

-- from d each step goes to a parent, and the last one to a
abbrev pub Climbs : List (List ℕ) → ℕ → List ℕ → ℕ → Type 0
Climbs g d [] a = d ≡ a
Climbs g d (p ∷ ps) a = (is_member p (parents_of g d) ≡ true) × Climbs g p ps a

-- d is a or descends from it
abbrev pub Reaches : List (List ℕ) → ℕ → ℕ → Type 0
Reaches g d a = (steps : List ℕ) × Climbs g d steps a

-- a class on a cycle is not its own proper ancestor
pub record IsProperAncestor (g : List (List ℕ)) (d a : ℕ) : Type 0 where
  pub other : d ≢ a
  pub above : Reaches g d a

-- each parent is a class
abbrev pub IsClosed : List (List ℕ) → Type 0
IsClosed g = (d p : ℕ) → is_member p (parents_of g d) ≡ true → p < length g

-- no parent is the class itself or descends from it
abbrev pub HasNoCycle : List (List ℕ) → Type 0
HasNoCycle g = (d p : ℕ) → is_member p (parents_of g d) ≡ true → Reaches g p d → ⊥

-- the numbers with P, each once
pub record IsListOf (P : ℕ → Type 0) (xs : List ℕ) : Type 0 where
  pub once : (i j a : ℕ) → slice_get xs i ≡ Some a → slice_get xs j ≡ Some a → i ≡ j
  pub only : (i a : ℕ) → slice_get xs i ≡ Some a → P a
  pub each : (a : ℕ) → P a → (i : ℕ) × (slice_get xs i ≡ Some a)

-- the classes, each once and after its parents
pub record IsOrder (g : List (List ℕ)) (order : List ℕ) : Type 0 where
  pub classes : IsListOf (λ d. d < length g) order
  pub after : (i d p : ℕ) → slice_get order i ≡ Some d → is_member p (parents_of g d) ≡ true → (j : ℕ) × (j < i) × (slice_get order j ≡ Some p)
