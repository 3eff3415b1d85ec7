-- What the reading of a text ensures.
use Rattle.std.specs.Prelude.{◌≡◌, ℕ, List, [], ◌∷◌, ◌++◌, map, Result, Ok, Err}
use Rattle.eif_base.specs.declared.Fault.{Fault}
use Rattle.eif_tree.specs.declared.ClassTree.{ClassTree}
use Rattle.eif_tree.specs.Tree.{ClassT}
use Rattle.eif_tree.specs.View.{class_view}
use Rattle.eif_check.specs.declared.texts.Parsed.{Parsed}
use Rattle.eif_check.specs.declared.texts.TextError.{TextError}
use Rattle.eif_check.specs.declared.texts.TextError.TheVariants as error
use Rattle.eif_check.specs.TextFaults.{TextGives}

-- the class or the fault that is given
abbrev pub Reads : (Result ClassT Fault → Type 0) → Result ClassTree TextError → Type 0
Reads gives (Ok tree) = gives (Ok (class_view tree))
Reads gives (Err (error.Fault f)) = gives (Err f)
Reads gives (Err error.Memory) = Unit {0}

-- the second has this class, or this fault, behind those of the first
abbrev pub HasAdded : Result ClassT Fault → Parsed → Parsed → Type 0
HasAdded (Ok c) old new =
    (map class_view new.trees.items ≡ map class_view old.trees.items ++ c ∷ []) × (new.faults ≡ old.faults)
HasAdded (Err f) old new =
    (map class_view new.trees.items ≡ map class_view old.trees.items) × (new.faults ≡ old.faults ++ f ∷ [])

-- the second has what the text is behind what the first has
abbrev pub AddsText : ℕ → List ℕ → Parsed → Parsed → Type 0
AddsText file text old new = (r : Result ClassT Fault) × TextGives file text r × HasAdded r old new
