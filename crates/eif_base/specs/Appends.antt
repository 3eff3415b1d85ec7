-- What a check adds to a list of faults. A set of faults is a test of faults: order and repeats mean nothing.
use Rattle.std.specs.Prelude.{◌≡◌, ℕ, List, ◌++◌, Some, slice_get}
use Rattle.eif_base.specs.declared.fault.Fault.{Fault}

-- a fault is in the list
abbrev pub In : List Fault → Fault → Type 0
In list f = (i : ℕ) × (slice_get list i ≡ Some f)

-- the list has exactly the faults with broken
pub record Has (list : List Fault) (broken : Fault → Type 0) : Type 0 where
  pub only : (f : Fault) → In list f → broken f
  pub each : (f : Fault) → broken f → In list f

-- exactly the faults with broken were added at the end
pub record Appends (old new : List Fault) (broken : Fault → Type 0) : Type 0 where
  pub more : List Fault
  pub is : new ≡ old ++ more
  pub only : (f : Fault) → In more f → broken f
  pub each : (f : Fault) → broken f → In more f

-- faults were added at the end
pub record Extends (old new : List Fault) : Type 0 where
  pub more : List Fault
  pub is : new ≡ old ++ more

-- the faults that are judged of the items, each with its place in the list
pub record SomeOf {A : Type 0} (xs : List A) (judge : ℕ → A → Fault → Type 0) (f : Fault) : Type 0 where
  pub i : ℕ
  pub x : A
  pub at : slice_get xs i ≡ Some x
  pub judged : judge i x f
