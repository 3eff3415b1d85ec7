-- Laws of the universe of classes that break none of its rules.
use Rattle.std.specs.Prelude.{◌≡◌, ℕ, true, false, ◌⊎◌, List, length, Some, slice_get}
use Rattle.std.specs.Option.{ForSome}
use Rattle.eif_base.specs.declared.root.Root.{Root}
use Rattle.eif_rules.specs.FaultForms.{IsNone}
use Rattle.eif_rules.specs.UniverseRules.{formal_count, UniverseBroken}
use Rattle.eif_system.specs.Graph.{IsOrder}
use Rattle.eif_system.specs.Inheritance.{clauses, graph_of}
use Rattle.eif_system.specs.Universe.{universe, class_number, is_formal}
use Rattle.eif_system.specs.WrittenTypes.{actuals, nested, type_name, written_types}
use Rattle.eif_tree.specs.Tree.{TypeT, ClassT}

-- ---- what the name of a type denotes in the class c

-- a formal, and there are no actuals
pub record NamesFormal (c : ClassT) (t : TypeT) : Type 0 where
  pub formal : is_formal c (type_name t) ≡ true
  pub none : length (actuals t) ≡ 0

-- the class k, with as many actuals as it has formals
pub record NamesClass (u : List ClassT) (c : ClassT) (t : TypeT) (k : ℕ) : Type 0 where
  pub no_formal : is_formal c (type_name t) ≡ false
  pub number : class_number u (type_name t) ≡ Some k
  pub count : length (actuals t) ≡ formal_count u k

-- one or the other
abbrev pub IsNamed : List ClassT → ClassT → TypeT → Type 0
IsNamed u c t = NamesFormal c t ⊎ ((k : ℕ) × NamesClass u c t k)

-- ---- of each class of the universe

-- P holds of each class, by its number and its text, where no rule of the universe is broken
abbrev pub OfEachClass : (List ClassT → ℕ → ClassT → Type 0) → Type 0
OfEachClass P =
    (given : List ClassT) (root : Root) → IsNone (UniverseBroken given root) →
    (d : ℕ) (c : ClassT) → slice_get (universe given) d ≡ Some c → P (universe given) d c

-- its name denotes it, so that no two names are equal
abbrev pub NamesDiffer : Type 0
NamesDiffer = OfEachClass (λ u d c. class_number u c.name ≡ Some d)

-- each type that it writes, and each type in one, has the name of a formal or a class and as many actuals as that takes
abbrev pub WrittenTypesAreNamed : Type 0
WrittenTypesAreNamed = OfEachClass (λ u d c.
    (i : ℕ) → ForSome (slice_get (written_types c) i) (λ w.
    (j : ℕ) → ForSome (slice_get (nested w.type_tree) j) (λ t. IsNamed u c t)))

-- each parent clause names a class
abbrev pub ParentsAreClasses : Type 0
ParentsAreClasses = OfEachClass (λ u d c.
    (i : ℕ) → ForSome (slice_get (clauses c) i) (λ p. (k : ℕ) × NamesClass u c p.parent k))

-- no constraint names a formal
abbrev pub ConstraintsNameNoFormal : Type 0
ConstraintsNameNoFormal = OfEachClass (λ u d c.
    (i : ℕ) → ForSome (slice_get c.formals i) (λ f. ForSome f.constraint (λ t.
    (j : ℕ) → ForSome (slice_get (nested t) j) (λ s. is_formal c (type_name s) ≡ false))))

-- the classes stand in some order of inheritance
abbrev pub UniverseHasOrder : Type 0
UniverseHasOrder =
    (given : List ClassT) (root : Root) → IsNone (UniverseBroken given root) →
    (order : List ℕ) × IsOrder (graph_of (universe given)) order
