-- What the tables of a universe say.
use Rattle.std.specs.Prelude.{◌≡◌, ℕ, ◌+◌, ◌<◌, ◌^◌, ◌⊎◌, List, Vec, length, map, take, drop}
use Rattle.eif_ancestry.specs.Ancestries.{number_graph, AreAncestries}
use Rattle.eif_base.specs.Appends.{Has, SomeOf}
use Rattle.eif_base.specs.declared.class_id.ClassId.{ClassId}
use Rattle.eif_base.specs.declared.fault.Fault.{Fault}
use Rattle.eif_base.specs.declared.root.Root.{Root}
use Rattle.eif_rules.specs.UniverseRules.{ClassBroken, HasManyAncestors, IsOwnAncestor, UniverseBroken}
use Rattle.eif_system.specs.Graph.{IsOrder}
use Rattle.eif_system.specs.Inheritance.{graph_of}
use Rattle.eif_system.specs.Kernel.{kernel, kernel_count}
use Rattle.eif_tree.specs.Tree.{ClassT}
use Rattle.eif_tree.specs.View.{class_view}
use Rattle.eif_tree.specs.declared.class.ClassTree.{ClassTree}
use Rattle.eif_universe.specs.ClassNumbering.{IsNumbering}
use Rattle.eif_universe.specs.declared.class_numbers.ClassNumbers.{ClassNumbers}
use Rattle.eif_universe.specs.declared.judge.Judged.{Judged}

-- ---- the classes while they are judged

-- the faults of whom the class d inherits from
abbrev pub InheritanceBroken : List ClassT → ℕ → ClassT → Fault → Type 0
InheritanceBroken u d c f = SomeOf c.parents (λ i p f. IsOwnAncestor u d c p f) f ⊎ HasManyAncestors u d c f

-- the faults of the given classes, without those of the root
abbrev pub GivenBroken : List ClassT → List ClassT → Fault → Type 0
GivenBroken u given f = SomeOf given (λ i c f. ClassBroken u (kernel_count + i) c f) f

-- the classes of a universe that are given
abbrev pub given_in : List ClassT → List ClassT
given_in u = drop kernel_count u

-- the universe begins with the kernel
abbrev pub HasKernel : List ClassT → Type 0
HasKernel u = take kernel_count u ≡ kernel

-- what is found out of a universe
pub record IsJudged (u : List ClassT) (root : Root) (j : Judged) : Type 0 where
  pub numbered : IsNumbering u j.numbers
  pub graph_is : number_graph j.graph.items ≡ graph_of u
  pub ancestors_are : AreAncestries (graph_of u) j.ancestors.items
  pub faults_are : Has j.faults (UniverseBroken (given_in u) root)

-- ---- the tables

-- the classes of a universe, as plain data
abbrev pub classes_of : List ClassTree → List ClassT
classes_of trees = map class_view trees

-- the numbers of classes
abbrev pub numbers_of : List ClassId → List ℕ
numbers_of ids = map (λ c. c.0) ids

-- the numbers of lists of classes
abbrev pub lists_of : {Z : Type 0} → List (Vec ClassId Z) → List (List ℕ)
lists_of lists = map (λ v. numbers_of v.items) lists

-- the tables are those of the universe
pub record AreTables {Z : Type 0} (u : List ClassT) (numbers : ClassNumbers) (parents : List (Vec ClassId Z))
    (ancestors : List (List ℕ)) (order : List ClassId) : Type 0 where
  pub few : length u < 2 ^ 32
  pub has_kernel : HasKernel u
  pub numbered : IsNumbering u numbers
  pub parents_are : lists_of parents ≡ graph_of u
  pub ancestors_are : AreAncestries (graph_of u) ancestors
  pub in_order : IsOrder (graph_of u) (numbers_of order)
