-- Orders of inheritance.
use Rattle.std.specs.Prelude.{ℕ, List}
use Rattle.eif_system.specs.Graph.{IsClosed, HasNoCycle, IsOrder}

-- a graph without a cycle has one
abbrev pub OrderExists : Type 0
OrderExists = (g : List (List ℕ)) → IsClosed g → HasNoCycle g → (order : List ℕ) × IsOrder g order
