-- Laws of holders: what fits goes on to fit, and heaps stay sound.
use Rattle.std.specs.Prelude.{◌≡◌, ℕ, true, false, List, [], ◌∷◌, ◌++◌, Some, slice_get, slice_set}
use Rattle.eif_classes.specs.KernelNumbers.{is_basic, array_number}
use Rattle.eif_classes.specs.Types.{TyT, Actuals, attached_form, actual_at, put_in}
use Rattle.eif_meaning.specs.Values.{Value, ClassType, Content, Object}
use Rattle.eif_meaning.specs.System.{System}
use Rattle.eif_meaning.specs.Objects.{start, field_type, string_object, new_object, object_of}
use Rattle.eif_meaning.specs.Calls.{is_void}
use Rattle.eif_meaning.specs.Assignments.{with_field}
use Rattle.eif_run_laws.specs.ObjectTypes.{IsMade, Over}
use Rattle.eif_run_laws.specs.Holders.{Fits, IsHeap, Grow}
use Rattle.eif_run_laws.specs.SystemLaws.{TypeLaws}

-- ---- values

pub record FittingStays : Type 0 where
  -- while the heap grows
  pub grown :
      (system : System) (h k : List Object) (t : TyT) (v : Value) → Grow h k → Fits system h t v
      → Fits system k t v
  -- in a holder of a type to which the first conforms
  pub conforming :
      (system : System) → TypeLaws system → (h : List Object) (t u : TyT) (v : Value)
      → system.conforms t u ≡ true → Fits system h t v → Fits system h u v
  -- in one of the attached form, unless it is Void
  pub attached :
      (system : System) → TypeLaws system → (h : List Object) (t : TyT) (v : Value)
      → is_void v ≡ false → Fits system h t v → Fits system h (attached_form t) v

-- the value with which a holder begins fits it, whatever the actuals of the object or the frame
abbrev pub StartFits : Type 0
StartFits =
    (system : System) → TypeLaws system → (h : List Object) (xs : Actuals) (t : TyT) (v : Value)
    → start t ≡ Some v → Fits system h (put_in xs t) v

-- ---- heaps

-- an object with other content
abbrev pub with_content : Content → Object → Object
with_content k o = record o { content = k }

-- the values of the content may stand in the object, if it is an ARRAY
abbrev pub ContentFits : System → List Object → ClassType → Content → Type 0
ContentFits system h t k =
    (xs : Actuals) → Over system t array_number xs → (i : ℕ) (v : Value)
    → slice_get k.values i ≡ Some v
    → Fits system h (actual_at xs 0) v

pub record HeapStays : Type 0 where
  -- with a new object
  pub created :
      (system : System) → TypeLaws system → (h : List Object) (t : ClassType) → IsHeap system h
      → IsMade system t
      → is_basic t.class_number ≡ false → IsHeap system (h ++ new_object system t ∷ [])
  pub string :
      (system : System) → TypeLaws system → (h : List Object) (bytes : List ℕ) → IsHeap system h
      → IsHeap system (h ++ string_object bytes ∷ [])
  -- with another value in a field
  pub field :
      (system : System) (h : List Object) (r : ℕ) (o : Object) (n : List ℕ) (t : TyT) (v : Value)
      → IsHeap system h
      → slice_get h r ≡ Some o → field_type system o.made.class_number n ≡ Some t
      → Fits system h (put_in o.made.actuals t) v → IsHeap system (slice_set h r (with_field n v o))
  -- with other content
  pub content :
      (system : System) (h : List Object) (r : ℕ) (o : Object) (k : Content) → IsHeap system h
      → slice_get h r ≡ Some o → ContentFits system h o.made k
      → IsHeap system (slice_set h r (with_content k o))

-- and objects stay in it
pub record ObjectsStay : Type 0 where
  pub same : (h : List Object) → Grow h h
  pub on : (h k l : List Object) → Grow h k → Grow k l → Grow h l
  pub added : (h : List Object) (o : Object) → Grow h (h ++ o ∷ [])
  pub field :
      (h : List Object) (r : ℕ) (o : Object) (n : List ℕ) (v : Value) → slice_get h r ≡ Some o
      → Grow h (slice_set h r (with_field n v o))
  pub content :
      (h : List Object) (r : ℕ) (o : Object) (k : Content) → slice_get h r ≡ Some o
      → Grow h (slice_set h r (with_content k o))

-- each value but Void is an object of a class that may have instances, with actuals that suit it
abbrev pub ObjectsAreMade : Type 0
ObjectsAreMade =
    (system : System) → TypeLaws system → (h : List Object) (v : Value) (o : Object)
    → IsHeap system h
    → object_of h v ≡ Some o → IsMade system o.made
