-- What this version judges of bodies and creation is all that plain classes can break.
use Rattle.std.specs.Prelude.{List}
use Rattle.eif_base.specs.declared.root.Root.{Root}
use Rattle.eif_rules.specs.FaultForms.{IsNone}
use Rattle.eif_system_rules.specs.SystemRules.{SystemBroken}
use Rattle.eif_tree.specs.Tree.{ClassT}
use Rattle.eif_valid_systems.specs.ValidSystems.{IsValidSystem}

-- a system without a fault of this version breaks no rule of the language
abbrev pub PlainSystemsAreValid : Type 0
PlainSystemsAreValid = (given : List ClassT) (root : Root) → IsNone (SystemBroken given root) → IsValidSystem given root
