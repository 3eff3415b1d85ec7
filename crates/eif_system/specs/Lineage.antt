-- A class with all its ancestors, as a tree over its parent clauses.
use Rattle.std.specs.Prelude.{ℕ, zero, suc, List, [], ◌∷◌, length, Option, Some, None, slice_get}
use Rattle.eif_tree.specs.Tree.{ParentT, ClassT}
use Rattle.eif_system.specs.Inheritance.{clauses, parent_number}

mutual
  pub data Line : Type 0 where
    -- the number of the class, the class, its parent clauses
    line : ℕ → ClassT → Ups → Line
    -- no class, or inheritance in a circle
    cut : Line

  pub data Ups : Type 0 where
    top : Ups
    -- a clause and the line of its class
    up : ParentT → Line → Ups → Ups

abbrev pub line_by : (ℕ → Line) → Option ℕ → Line
line_by f None = cut
line_by f (Some d) = f d

abbrev pub ups_by : (ParentT → Line) → List ParentT → Ups
ups_by f [] = top
ups_by f (p ∷ ps) = up p (f p) (ups_by f ps)

abbrev pub line_at : List ClassT → (ℕ → Line) → ℕ → Option ClassT → Line
line_at u f d None = cut
line_at u f d (Some c) = line d c (ups_by (λ p. line_by f (parent_number u c p)) (clauses c))

abbrev pub lineage : ℕ → List ClassT → ℕ → Line
lineage zero u d = cut
lineage (suc k) u d = line_at u (lineage k u) d (slice_get u d)

-- no path through parent clauses without a circle is longer than the universe
unfoldable pub line_of : List ClassT → ℕ → Line
line_of u d = lineage (length u) u d
