-- Objects: how they begin, and the object that a value is.
use Rattle.std.specs.Prelude.{ℕ, pos, false, ◌==◌, if◌then◌else◌, List, [], ◌∷◌, ◌++◌, length, Option, Some, None, slice_get, slice_set}
use Rattle.std.specs.Option.{option_and_then}
use Rattle.std.specs.Str.{bytes_eq}
use Rattle.eif_tree.specs.declared.tree.Mark.TheVariants.{Attached, Detachable}
use Rattle.eif_classes.specs.Features.{is_attribute}
use Rattle.eif_classes.specs.KernelNumbers.{integer_number, boolean_number, character_number, string_number}
use Rattle.eif_classes.specs.Types.{TyT, class_type, no_actuals, same_mark, is_self_initialising}
use Rattle.eif_meaning.specs.Values.{Value, void, integer, boolean, character, reference, ClassType, Content, Object, Store, no_feature, done, Does, give, fail, some_or}
use Rattle.eif_meaning.specs.System.{System}

-- a function with another value at a name
abbrev pub set_at : {A : Type 0} → List ℕ → A → (List ℕ → A) → List ℕ → A
set_at x a f = λ y. if bytes_eq y x then a else f y

-- ---- how a holder begins

-- 0, False, the byte 0
abbrev pub basic_start : ℕ → Value
basic_start d =
    if d == integer_number then integer (pos 0)
    else if d == boolean_number then boolean false
    else character 0

-- Void where the mark is detachable
abbrev pub start_value : TyT → Value
start_value (class_type d m ts) = if same_mark m Detachable then void else basic_start d
start_value _ = void

-- by its type over the formals of a class: a field by that in the object's class, a local and `Result` by that in the
-- class of the body; a holder without a value is unset
abbrev pub start : TyT → Option Value
start t = if is_self_initialising t then Some (start_value t) else None

-- the result of a name of a class, over the formals of the class
abbrev pub result_type : System → ℕ → List ℕ → Option TyT
result_type system d n = option_and_then (λ g. g.result) (system.signature d n)

-- the type of a field of a class; a name whose origin is no attribute is no field
abbrev pub field_type : System → ℕ → List ℕ → Option TyT
field_type system d n =
    option_and_then (λ x. if is_attribute x.tree.kind then result_type system d n else None) (system.origin d n)

-- ---- objects

-- no bytes; an ARRAY that was not filled is empty with the lowest index 0
abbrev pub no_content : Content
no_content = record { bytes = []; lowest = pos 0; values = [] }

-- an object of a class without formals and fields
abbrev pub plain_object : ℕ → Content → Object
plain_object d content = record {
  made = record { class_number = d; actuals = no_actuals };
  field = λ _. None;
  content = content;
}

-- a STRING
abbrev pub string_object : List ℕ → Object
string_object bytes = plain_object string_number (record { bytes = bytes; lowest = pos 0; values = [] })

-- an object of a class that is given: each field begins by its type in the class of the object
abbrev pub new_object : System → ClassType → Object
new_object system t = record {
  made = t;
  field = λ n. option_and_then start (field_type system t.class_number n);
  content = no_content;
}

-- the closed type of an object, attached
abbrev pub type_of : Object → TyT
type_of o = class_type o.made.class_number Attached o.made.actuals

-- every value but Void is an object of a class
abbrev pub object_of : List Object → Value → Option Object
object_of heap void = None
object_of heap (integer n) = Some (plain_object integer_number no_content)
object_of heap (boolean b) = Some (plain_object boolean_number no_content)
object_of heap (character n) = Some (plain_object character_number no_content)
object_of heap (reference r) = slice_get heap r

-- ---- steps on the heap

-- the object of a value
abbrev pub object_at : Value → Does Object
object_at v s = some_or no_feature (object_of s.store.heap v) give s

-- a store with other objects
abbrev pub with_heap : List Object → Store → Store
with_heap heap s = record s { heap = heap }

-- puts a new object behind the others, and gives its reference
abbrev pub allocate : Object → Does Value
allocate o s =
    done (record s { store = with_heap (s.store.heap ++ o ∷ []) s.store }) (reference (length s.store.heap))

-- puts an object in the place of a reference; a basic value has none
abbrev pub replace_object : Value → Object → Does (Unit {0})
replace_object (reference r) o = λ s. done (record s { store = with_heap (slice_set s.store.heap r o) s.store }) tt
replace_object _ o = fail no_feature
