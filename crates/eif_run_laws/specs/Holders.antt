-- When a value may stand in a holder of a closed type, and what a heap keeps.
use Rattle.std.specs.Prelude.{◌≡◌, ℕ, true, false, List, [], ◌∷◌, Option, Some, None, slice_get}
use Rattle.eif_classes.specs.KernelNumbers.{is_basic, array_number}
use Rattle.eif_classes.specs.Types.{TyT, Actuals, actual_at, put_in}
use Rattle.eif_meaning.specs.Values.{Value, void, integer, boolean, character, reference, Object, Seen}
use Rattle.eif_meaning.specs.System.{System}
use Rattle.eif_meaning.specs.Objects.{field_type, type_of, object_of}
use Rattle.eif_run_laws.specs.ObjectTypes.{takes_void, IsMade, Over}

-- ---- values

-- a holder has a value
abbrev pub IsSet : {A : Type 0} → Option A → Type 0
IsSet None = ⊥
IsSet (Some v) = Unit {0}

-- no field is unset
abbrev pub IsComplete : System → Object → Type 0
IsComplete system o =
    (n : List ℕ) (t : TyT) → field_type system o.made.class_number n ≡ Some t → IsSet (o.field n)

-- the value is an object without an unset field, whose type conforms to the closed type
pub record IsObject (system : System) (heap : List Object) (t : TyT) (v : Value) : Type 0 where
  pub object : Object
  pub there : object_of heap v ≡ Some object
  pub conforms : system.conforms (type_of object) t ≡ true
  pub complete : IsComplete system object

-- the value may stand in a holder of the closed type
abbrev pub Fits : System → List Object → TyT → Value → Type 0
Fits system heap t void = takes_void t ≡ true
Fits system heap t (integer n) = IsObject system heap t (integer n)
Fits system heap t (boolean b) = IsObject system heap t (boolean b)
Fits system heap t (character n) = IsObject system heap t (character n)
Fits system heap t (reference r) = IsObject system heap t (reference r)

-- as many, each in a holder of its type
abbrev pub AllFit : System → List Object → List TyT → List Value → Type 0
AllFit system heap [] [] = Unit {0}
AllFit system heap [] (v ∷ vs) = ⊥
AllFit system heap (t ∷ ts) [] = ⊥
AllFit system heap (t ∷ ts) (v ∷ vs) = Fits system heap t v × AllFit system heap ts vs

-- a body gives a value of the closed type, or none where it is no function
abbrev pub Answers : System → List Object → Option TyT → Option Value → Type 0
Answers system heap None None = Unit {0}
Answers system heap (Some t) (Some v) = Fits system heap t v
Answers system heap _ _ = ⊥

-- an expression gives a value of the closed type, seen under that type
abbrev pub Gives : System → List Object → TyT → Option Seen → Type 0
Gives system heap t None = ⊥
Gives system heap t (Some w) = Fits system heap t w.value × (w.type ≡ t)

-- ---- heaps

-- an object's class is there with actuals that suit it, and its values are references; each set field fits its type,
-- and each value of an ARRAY fits the actual of ARRAY
pub record IsSound (system : System) (heap : List Object) (o : Object) : Type 0 where
  pub made : IsMade system o.made
  pub by_reference : is_basic o.made.class_number ≡ false
  pub fields : (n : List ℕ) (v : Value) → o.field n ≡ Some v
      → (t : TyT) × (field_type system o.made.class_number n ≡ Some t)
      × Fits system heap (put_in o.made.actuals t) v
  pub values : (xs : Actuals) → Over system o.made array_number xs → (i : ℕ) (v : Value)
      → slice_get o.content.values i ≡ Some v → Fits system heap (actual_at xs 0) v

abbrev pub IsHeap : System → List Object → Type 0
IsHeap system heap = (r : ℕ) (o : Object) → slice_get heap r ≡ Some o → IsSound system heap o

-- an object and what it has become: it keeps its type, and what is set stays set
pub record Stays (old new : Object) : Type 0 where
  pub made : new.made ≡ old.made
  pub set : (n : List ℕ) → IsSet (old.field n) → IsSet (new.field n)

-- objects stay under their references
abbrev pub Grow : List Object → List Object → Type 0
Grow old new = (r : ℕ) (o : Object) → slice_get old r ≡ Some o
    → (p : Object) × (slice_get new r ≡ Some p) × Stays o p
