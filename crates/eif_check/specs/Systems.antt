-- The faults of a system: those of its texts, or, where each text is a class, those of the classes.
use Rattle.std.specs.Prelude.{◌≡◌, ℕ, List, length, Some, Ok, Err, ◌⊎◌, slice_get}
use Rattle.eif_base.specs.declared.Fault.{Fault}
use Rattle.eif_base.specs.declared.root.Root.{Root}
use Rattle.eif_base.specs.Appends.{SomeOf}
use Rattle.eif_tree.specs.Tree.{ClassT}
use Rattle.eif_system_rules.specs.SystemRules.{SystemBroken}
use Rattle.eif_check.specs.TextFaults.{TextGives}

-- a text has this fault
abbrev pub TextsBroken : List (List ℕ) → Fault → Type 0
TextsBroken texts f = SomeOf texts (λ i text f. TextGives i text (Err f)) f

-- each text is the class with its number
pub record AreClasses (texts : List (List ℕ)) (given : List ClassT) : Type 0 where
  pub long : length given ≡ length texts
  pub each : (i : ℕ) (text : List ℕ) (c : ClassT) → slice_get texts i ≡ Some text → slice_get given i ≡ Some c
      → TextGives i text (Ok c)

-- a fault of the texts with that root; since a text that is a class has none, the first phase that has any counts
abbrev pub Broken : List (List ℕ) → Root → Fault → Type 0
Broken texts root f =
    TextsBroken texts f ⊎ ((given : List ClassT) × AreClasses texts given × SystemBroken given root f)
