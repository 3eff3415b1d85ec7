-- Classes that break no rule of features, with all their ancestors.
use Rattle.std.specs.Prelude.{◌≡◌, ◌↔◌, ℕ, ◌<◌, Bool, true, ◌&&◌, List, [], length, flat_map, Some, slice_get}
use Rattle.std.specs.List.{list_all}
use Rattle.eif_base.specs.Appends.{In}
use Rattle.eif_base.specs.declared.fault.Fault.{Fault}
use Rattle.eif_base.specs.declared.root.Root.{Root}
use Rattle.eif_classes.specs.Binding.{bind}
use Rattle.eif_classes.specs.Descent.{descends, above}
use Rattle.eif_classes.specs.Features.{has_feature}
use Rattle.eif_feature_rules.specs.FeaturePhases.{own_feature_faults, is_clean, feature_faults, FeaturesBroken}
use Rattle.eif_rules.specs.FaultForms.{IsNone}
use Rattle.eif_rules.specs.UniverseRules.{UniverseBroken}
use Rattle.eif_system.specs.Graph.{IsOrder}
use Rattle.eif_system.specs.Inheritance.{graph_of, parent_numbers}
use Rattle.eif_system.specs.Kernel.{kernel_count}
use Rattle.eif_system.specs.Lineage.{line_of}
use Rattle.eif_system.specs.Universe.{universe}
use Rattle.eif_tree.specs.Tree.{ClassT}

-- the class and all its ancestors have no breach
abbrev pub is_whole : List ClassT → ℕ → Bool
is_whole u d = is_clean u d && list_all (is_clean u) (above (line_of u d))

-- the faults of the classes in an order, each judged where its ancestors have none
abbrev pub faults_by : List ClassT → List ℕ → List Fault
faults_by u order = flat_map (λ d. feature_faults u (line_of u d)) order

-- P of the universe of given classes that break no rule of the universe
abbrev pub OfUniverses : (List ClassT → List ClassT → Type 0) → Type 0
OfUniverses P = (given : List ClassT) (root : Root) → IsNone (UniverseBroken given root) → P given (universe given)

abbrev pub KernelHasNoFault : Type 0
KernelHasNoFault = OfUniverses (λ given u. (d : ℕ) → d < kernel_count → own_feature_faults u (line_of u d) ≡ [])

-- the ancestors of a class are whole where its parents are
abbrev pub WholeByParents : Type 0
WholeByParents = OfUniverses (λ given u. (d : ℕ) (c : ClassT) → slice_get u d ≡ Some c →
    list_all (is_clean u) (above (line_of u d)) ≡ list_all (is_whole u) (parent_numbers u c))

-- where each class is whole, each name of an ancestor k is bound to a name of the class d
abbrev pub WholeIsBound : Type 0
WholeIsBound = OfUniverses (λ given u. ((d : ℕ) → d < length u → is_whole u d ≡ true) →
    (d k : ℕ) (m : List ℕ) → descends (line_of u d) k ≡ true → has_feature (line_of u k) m ≡ true →
    (n : List ℕ) × (bind (line_of u d) k m ≡ Some n) × (has_feature (line_of u d) n ≡ true))

-- those of all classes, in an order of inheritance, are those of the given ones
abbrev pub FaultsAreThoseOfGiven : Type 0
FaultsAreThoseOfGiven = OfUniverses (λ given u. (order : List ℕ) → IsOrder (graph_of u) order →
    (f : Fault) → In (faults_by u order) f ↔ FeaturesBroken given f)
