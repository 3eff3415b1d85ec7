-- What the rules say of a part of a text: a value, if it has one, and faults.
use Rattle.std.specs.Prelude.{List, [], ◌∷◌, ◌++◌, Option, Some, None}
use Rattle.eif_base.specs.declared.fault.Fault.{Fault}

pub record Judged (A : Type 0) : Type 0 where
  pub value : Option A
  pub faults : List Fault

abbrev pub fine : {A : Type 0} → A → Judged A
fine a = record { value = Some a; faults = [] }

-- no value, and no fault by that
abbrev pub untyped : {A : Type 0} → Judged A
untyped = record { value = None; faults = [] }

abbrev pub broken : {A : Type 0} → Fault → Judged A
broken f = record { value = None; faults = f ∷ [] }

-- judged on where there is no fault
abbrev pub unless : {A : Type 0} → List Fault → Judged A → Judged A
unless [] j = j
unless (f ∷ fs) j = record { value = None; faults = f ∷ fs }

-- the faults of the first of two rules that is broken
abbrev pub first_of : List Fault → List Fault → List Fault
first_of [] gs = gs
first_of (f ∷ fs) gs = f ∷ fs

-- ---- a node and its parts

-- what a rule says of a value, if there is one
abbrev pub next : {A B : Type 0} → Option A → (A → Judged B) → Judged B
next None rule = untyped
next (Some a) rule = rule a

-- the rule of a node is judged where its parts have values
infixl 10 ◌▹◌
abbrev pub ◌▹◌ : {A B : Type 0} → Judged A → (A → Judged B) → Judged B
j ▹ rule = record { value = (next j.value rule).value; faults = j.faults ++ (next j.value rule).faults }

abbrev pub both : {A B : Type 0} → Option A → Option B → Option (A × B)
both None b = None
both (Some a) None = None
both (Some a) (Some b) = Some (a, b)

-- two parts, each judged by itself
infixl 12 ◌⊗◌
abbrev pub ◌⊗◌ : {A B : Type 0} → Judged A → Judged B → Judged (A × B)
j ⊗ k = record { value = both j.value k.value; faults = j.faults ++ k.faults }

-- what is judged apart of a value, if there is one
abbrev pub where_typed : {A : Type 0} → Option A → (A → List Fault) → List Fault
where_typed None rule = []
where_typed (Some a) rule = rule a
