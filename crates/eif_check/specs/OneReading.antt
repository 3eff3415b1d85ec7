-- What a text is, is one.
use Rattle.std.specs.Prelude.{◌≡◌, ℕ, List, Result}
use Rattle.eif_base.specs.declared.Fault.{Fault}
use Rattle.eif_tree.specs.Tree.{ClassT}
use Rattle.eif_check.specs.Systems.{TextsBroken, AreClasses}
use Rattle.eif_check.specs.TextFaults.{TextGives}

-- a text is one class, or has one fault, and not both
abbrev pub OneReading : Type 0
OneReading =
    (file : ℕ) (text : List ℕ) (a b : Result ClassT Fault) → TextGives file text a → TextGives file text b → a ≡ b

-- texts that are classes have no fault, and are no other classes
abbrev pub OneSystem : Type 0
OneSystem =
    (texts : List (List ℕ)) (given : List ClassT) → AreClasses texts given
    → ((f : Fault) → TextsBroken texts f → ⊥) × ((other : List ClassT) → AreClasses texts other → other ≡ given)
