-- The law of built-in bodies: on an object of their class, with arguments that fit, they do not go wrong and answer what
-- their result type says.
use Rattle.std.specs.Prelude.{◌≡◌, false, List, [], Option, Some}
use Rattle.eif_classes.specs.KernelNumbers.{any_number}
use Rattle.eif_classes.specs.Signatures.{with_actuals}
use Rattle.eif_meaning.specs.Values.{Value, Object, State}
use Rattle.eif_meaning.specs.KernelBodies.{BuiltIn}
use Rattle.eif_meaning.specs.KernelTypes.{plain_type, out_name, string_type}
use Rattle.eif_meaning.specs.Objects.{object_of}
use Rattle.eif_meaning.specs.Frames.{Frame}
use Rattle.eif_meaning.specs.Calls.{is_void, through}
use Rattle.eif_meaning.specs.BuiltIns.{any_class, run_built_in}
use Rattle.eif_run_laws.specs.ObjectTypes.{Over}
use Rattle.eif_run_laws.specs.Holders.{Fits, AllFit, Answers, IsHeap}
use Rattle.eif_run_laws.specs.KernelSignatures.{class_with, signature_of}
use Rattle.eif_run_laws.specs.OperatorLaws.{EndsIn}
use Rattle.eif_run_laws.specs.SystemLaws.{TypeLaws}
use Rattle.eif_run_laws.specs.Steps.{Safe, heap_of, Extends}

-- Current is an object on which its class has the actuals of the frame
pub record IsCurrent (c : Frame) (heap : List Object) : Type 0 where
  pub object : Object
  pub there : object_of heap c.current ≡ Some object
  pub over : Over c.system object.made c.class_number c.actuals

-- a call of `out` through ANY, on a value that is not Void, gives a STRING
abbrev pub OutGives : Frame → Type 0
OutGives c =
    (v : Value) (s : State) → IsHeap c.system (heap_of s) → is_void v ≡ false
    → Fits c.system (heap_of s) (plain_type any_number) v
    → Safe (through c (Some any_class) v out_name [] s) (EndsIn c.system string_type s)

-- a body ends in a state that extends the first one, and answers by its result type
abbrev pub BodyEnds : Frame → BuiltIn → State → State → Option Value → Type 0
BodyEnds c b s t a =
    Extends c.system s t × Answers c.system (heap_of t) (with_actuals c.actuals
    (signature_of b)).result a

abbrev pub BuiltInsAnswer : Type 0
BuiltInsAnswer =
    (c : Frame) → TypeLaws c.system → OutGives c → (b : BuiltIn) (vs : List Value) (s : State)
    → c.class_number ≡ class_with b → IsHeap c.system (heap_of s) → IsCurrent c (heap_of s)
    → AllFit c.system (heap_of s) (with_actuals c.actuals (signature_of b)).arguments vs
    → Safe (run_built_in c b vs s) (BodyEnds c b s)
