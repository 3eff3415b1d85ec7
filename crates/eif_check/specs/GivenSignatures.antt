-- What the phase of signatures finds in the given classes.
use Rattle.std.specs.Prelude.{ℕ, ◌+◌, List, flat_map, slice_range}
use Rattle.std.specs.List.{enumerate_from}
use Rattle.eif_base.specs.declared.fault.Fault.{Fault}
use Rattle.eif_base.specs.declared.root.Root.{Root}
use Rattle.eif_check.specs.declared.signatures.Redeclarations.{Redeclarations}
use Rattle.eif_feature_rules.specs.FeaturePhases.{signature_faults}
use Rattle.eif_signatures.specs.DerivedSystems.{IsDerivedUniverse}
use Rattle.eif_system.specs.Kernel.{kernel_count}
use Rattle.eif_system.specs.Lineage.{line_of}
use Rattle.eif_tree.specs.Tree.{ClassT}
use Rattle.eif_universe.specs.Universes.{classes_of, given_in}

-- the classes to be judged break no rule up to those of derivations
abbrev pub AreDerived : Redeclarations → Type 0
AreDerived w = IsDerivedUniverse (classes_of w.universe.now) w.tables.now w.types.now

-- of a given class by its number among them
abbrev pub signatures_at : List ClassT → Root → ℕ × ClassT → List Fault
signatures_at u root x = signature_faults u root (line_of u (kernel_count + x.0))

-- of those from the first to before the second
abbrev pub signatures_between : List ClassT → Root → ℕ → ℕ → List Fault
signatures_between u root first past =
    flat_map (signatures_at u root) (slice_range (enumerate_from 0 (given_in u)) first past)
