-- Laws of the lines of classes that stand in an order of inheritance.
use Rattle.std.specs.Prelude.{◌≡◌, ◌↔◌, ℕ, ◌<◌, true, List, Some, slice_get}
use Rattle.eif_ancestry.specs.Ancestries.{IsRisingListOf}
use Rattle.eif_classes.specs.Descent.{descends, above}
use Rattle.eif_system.specs.Graph.{is_member, Reaches, IsProperAncestor, IsOrder}
use Rattle.eif_system.specs.Inheritance.{clauses, parent_number, graph_of}
use Rattle.eif_system.specs.Lineage.{Line, line, line_by, ups_by, line_of}
use Rattle.eif_tree.specs.Tree.{ClassT}

-- the line of the class d with the text c, over the lines of the classes of its parent clauses
abbrev pub line_over : List ClassT → ℕ → ClassT → Line
line_over u d c = line d c (ups_by (λ p. line_by (line_of u) (parent_number u c p)) (clauses c))

-- the line of a class stands over those of its clauses' classes, whole
abbrev pub LinesUnfold : Type 0
LinesUnfold =
    (u : List ClassT) (order : List ℕ) → IsOrder (graph_of u) order →
    (d : ℕ) (c : ClassT) → slice_get u d ≡ Some c → line_of u d ≡ line_over u d c

-- a class descends from those that the graph of parents leads to
abbrev pub DescentIsReaching : Type 0
DescentIsReaching =
    (u : List ClassT) (order : List ℕ) → IsOrder (graph_of u) order →
    (d k : ℕ) (c : ClassT) → slice_get u d ≡ Some c → (descends (line_of u d) k ≡ true) ↔ Reaches (graph_of u) d k

-- the proper ancestors are listed by rising number, each once
abbrev pub AncestorsAreListed : Type 0
AncestorsAreListed =
    (u : List ClassT) (order : List ℕ) → IsOrder (graph_of u) order →
    (d : ℕ) (c : ClassT) → slice_get u d ≡ Some c →
    IsRisingListOf (IsProperAncestor (graph_of u) d) (above (line_of u d))

-- each of them stands before the class in the order
abbrev pub AncestorsStandBefore : Type 0
AncestorsStandBefore =
    (u : List ClassT) (order : List ℕ) → IsOrder (graph_of u) order →
    (i d k : ℕ) → slice_get order i ≡ Some d → is_member k (above (line_of u d)) ≡ true →
    (j : ℕ) × (j < i) × (slice_get order j ≡ Some k)
