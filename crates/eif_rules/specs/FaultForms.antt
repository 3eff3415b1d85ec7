-- Faults in a few words, and sets of faults. A set is a test of faults: order and repeats mean nothing.
use Rattle.std.specs.Prelude.{ℕ, Bool, if◌then◌else◌, ◌⊎◌, List, [], ◌∷◌}
use Rattle.eif_base.specs.declared.code.Code.{Code}
use Rattle.eif_base.specs.declared.fault.Fault.{Fault}
use Rattle.eif_base.specs.declared.place.Place.{Place}
use Rattle.eif_tree.specs.Tree.{ClassT}

-- a fault in a feature of the class, at that place and about that name
abbrev pub fault_in : ClassT → List ℕ → Code → ℕ → Place → List ℕ → Fault
fault_in c feature code case place about =
    record { code = code; case = case; class = c.name; feature = feature; place = place; about = about }

-- a fault of the class in no feature
abbrev pub fault_at : ClassT → Code → ℕ → Place → List ℕ → Fault
fault_at c code case place about = fault_in c [] code case place about

-- a fault at the class's name and about it
abbrev pub fault_of : ClassT → Code → ℕ → Fault
fault_of c code case = fault_at c code case c.place c.name

-- a fault that is told of no class and no feature
abbrev pub fault_of_text : Code → Place → List ℕ → Fault
fault_of_text code place about = record { code = code; case = 1; class = []; feature = []; place = place; about = about }

-- the fault, where the rule is broken
abbrev pub fault_where : Bool → Fault → List Fault
fault_where b f = if b then f ∷ [] else []

-- no fault has it
abbrev pub IsNone : (Fault → Type 0) → Type 0
IsNone broken = (f : Fault) → broken f → ⊥

-- the faults of the first of two phases that has any
abbrev pub FirstOf : (Fault → Type 0) → (Fault → Type 0) → Fault → Type 0
FirstOf first later f = first f ⊎ (IsNone first × later f)
