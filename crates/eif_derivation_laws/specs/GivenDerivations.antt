-- The faults of the phase of derivations, as they are found.
use Rattle.std.specs.Prelude.{◌≡◌, ◌↔◌, ◌⊎◌, ℕ, ◌<◌, List, [], flat_map}
use Rattle.std.specs.List.{enumerate_from}
use Rattle.eif_base.specs.Appends.{In}
use Rattle.eif_base.specs.declared.fault.Fault.{Fault}
use Rattle.eif_feature_rules.specs.DerivationRules.{derivation_faults, written_actual_faults}
use Rattle.eif_feature_rules.specs.FeaturePhases.{class_derivation_faults, DerivationsBroken}
use Rattle.eif_system.specs.Graph.{IsOrder}
use Rattle.eif_system.specs.Inheritance.{graph_of}
use Rattle.eif_system.specs.Kernel.{kernel_count}
use Rattle.eif_system.specs.Lineage.{line_of}
use Rattle.eif_table_laws.specs.WholeClasses.{OfUniverses}
use Rattle.eif_tree.specs.Tree.{ClassT}

-- of the derivations of the classes in an order
abbrev pub derivations_by : List ClassT → List ℕ → List Fault
derivations_by u order = flat_map (λ d. derivation_faults u (line_of u d)) order

-- of the actuals that the classes write, in the order of their numbers
abbrev pub actuals_by : List ClassT → List Fault
actuals_by u = flat_map (λ x. written_actual_faults u x.0 x.1) (enumerate_from 0 u)

-- the kernel's classes have none
abbrev pub KernelIsDerived : Type 0
KernelIsDerived = OfUniverses (λ given u. (d : ℕ) → d < kernel_count → class_derivation_faults u (line_of u d) ≡ [])

-- both together are those of the phase, whatever the order of inheritance
abbrev pub DerivationsAreOfGiven : Type 0
DerivationsAreOfGiven = OfUniverses (λ given u. (order : List ℕ) → IsOrder (graph_of u) order →
    (f : Fault) → (In (derivations_by u order) f ⊎ In (actuals_by u) f) ↔ DerivationsBroken given f)
