-- What the phase of signatures finds in a class.
use Rattle.std.specs.Prelude.{ℕ, nat_lt, if◌then◌else◌, List, []}
use Rattle.eif_base.specs.declared.fault.Fault.{Fault}
use Rattle.eif_base.specs.declared.root.Root.{Root}
use Rattle.eif_feature_rules.specs.FeaturePhases.{signature_faults}
use Rattle.eif_system.specs.Kernel.{kernel_count}
use Rattle.eif_system.specs.Lineage.{line_of}
use Rattle.eif_tree.specs.Tree.{ClassT}

-- the kernel's classes are not judged
abbrev pub class_signature_faults : List ClassT → Root → ℕ → List Fault
class_signature_faults u root d = if nat_lt d kernel_count then [] else signature_faults u root (line_of u d)
