-- Laws of the types of a universe whose classes break no rule.
use Rattle.std.specs.Prelude.{◌≡◌, ℕ, List, length, Some, slice_get}
use Rattle.std.specs.Option.{ForSome}
use Rattle.eif_base.specs.declared.root.Root.{Root}
use Rattle.eif_classes.specs.Resolution.{resolved}
use Rattle.eif_feature_rules.specs.FeaturePhases.{DerivationsBroken}
use Rattle.eif_rules.specs.FaultForms.{IsNone}
use Rattle.eif_rules.specs.UniverseRules.{UniverseBroken}
use Rattle.eif_system.specs.Graph.{IsOrder}
use Rattle.eif_system.specs.Inheritance.{graph_of}
use Rattle.eif_system.specs.Universe.{universe}
use Rattle.eif_system.specs.WrittenTypes.{nested, written_types}
use Rattle.eif_tree.specs.Tree.{TypeT, ClassT}
use Rattle.eif_type_laws.specs.ClassTypes.{IsSomething, IsOf, constraints_of, IsValid, AreValid, EachClause, IsValidClause, IsHierarchy, Defined}

-- P of each type that the class c writes, and of each type in one
abbrev pub OfWrittenTypes : ClassT → (TypeT → Type 0) → Type 0
OfWrittenTypes c P =
    (i : ℕ) → ForSome (slice_get (written_types c) i) (λ w. (j : ℕ) → ForSome (slice_get (nested w.type_tree) j) P)

-- ---- no rule of the universe is broken

-- in any order of inheritance the classes are a hierarchy
abbrev pub UniverseIsHierarchy : Type 0
UniverseIsHierarchy =
    (given : List ClassT) (root : Root) → IsNone (UniverseBroken given root) →
    (order : List ℕ) → IsOrder (graph_of (universe given)) order → IsHierarchy (universe given) order

-- each written type means a type of its class, and not NONE
abbrev pub WrittenTypesAreOfTheClass : Type 0
WrittenTypesAreOfTheClass =
    (given : List ClassT) (root : Root) → IsNone (UniverseBroken given root) →
    (d : ℕ) (c : ClassT) → slice_get (universe given) d ≡ Some c →
    OfWrittenTypes c (λ t.
    IsSomething (resolved (universe given) c t)
    × IsOf (universe given) (length c.formals) (resolved (universe given) c t))

-- ---- and no rule of derivations

abbrev pub UniverseIsDefined : Type 0
UniverseIsDefined =
    (given : List ClassT) (root : Root) → IsNone (UniverseBroken given root) → IsNone (DerivationsBroken given) →
    Defined (universe given)

abbrev pub ClausesAreValid : Type 0
ClausesAreValid =
    (given : List ClassT) (root : Root) → IsNone (UniverseBroken given root) → IsNone (DerivationsBroken given) →
    EachClause (universe given) (IsValidClause (universe given))

abbrev pub WrittenTypesAreValid : Type 0
WrittenTypesAreValid =
    (given : List ClassT) (root : Root) → IsNone (UniverseBroken given root) → IsNone (DerivationsBroken given) →
    (d : ℕ) (c : ClassT) → slice_get (universe given) d ≡ Some c →
    OfWrittenTypes c (λ t. IsValid (universe given) d (resolved (universe given) c t))

-- constraints are valid, in any class since they name no formal
abbrev pub ConstraintsAreValid : Type 0
ConstraintsAreValid =
    (given : List ClassT) (root : Root) → IsNone (UniverseBroken given root) → IsNone (DerivationsBroken given) →
    (d e : ℕ) → AreValid (universe given) e (constraints_of (universe given) d)
