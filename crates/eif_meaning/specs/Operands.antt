-- What operators and built-in bodies take and give. An operand of another kind is a missing feature.
use Rattle.std.specs.Prelude.{ℕ, ℤ, Bool, ◌==◌, if◌then◌else◌, List, length, Option, Some, nat_le}
use Rattle.eif_classes.specs.KernelNumbers.{string_number}
use Rattle.eif_classes.specs.Types.{TyT}
use Rattle.eif_meaning.specs.Values.{Value, integer, boolean, character, Seen, no_feature, Does, ◌>>=◌, give, fail, stop}
use Rattle.eif_meaning.specs.KernelTypes.{integer_type, boolean_type, string_type}
use Rattle.eif_meaning.specs.Objects.{string_object, object_at, allocate}

-- ---- what is given

-- a value, seen under a type
abbrev pub give_seen : Value → TyT → Does (Option Seen)
give_seen v t = give (Some (record { value = v; type = t }))

-- an INTEGER
abbrev pub give_integer : ℤ → Does (Option Seen)
give_integer n = give_seen (integer n) integer_type

-- a BOOLEAN
abbrev pub give_boolean : Bool → Does (Option Seen)
give_boolean b = give_seen (boolean b) boolean_type

-- a new STRING
abbrev pub give_string : List ℕ → Does (Option Seen)
give_string bytes = allocate (string_object bytes) >>= (λ v. give_seen v string_type)

-- as many bytes as a STRING may have, and as many values as an ARRAY may be filled with
abbrev pub most_items : ℕ
most_items = 16777216

-- goes on with bytes that a STRING may have, or stops
abbrev pub bytes_or_stop : {A : Type 0} → List ℕ → (List ℕ → Does A) → Does A
bytes_or_stop bytes f = if nat_le (length bytes) most_items then f bytes else stop

-- ---- what is taken

-- an INTEGER
abbrev pub as_integer : {A : Type 0} → Value → (ℤ → Does A) → Does A
as_integer (integer n) f = f n
as_integer _ f = fail no_feature

-- a BOOLEAN
abbrev pub as_boolean : {A : Type 0} → Value → (Bool → Does A) → Does A
as_boolean (boolean b) f = f b
as_boolean _ f = fail no_feature

-- a CHARACTER
abbrev pub as_character : {A : Type 0} → Value → (ℕ → Does A) → Does A
as_character (character n) f = f n
as_character _ f = fail no_feature

-- the bytes of a STRING
abbrev pub as_bytes : {A : Type 0} → Value → (List ℕ → Does A) → Does A
as_bytes v f =
    object_at v >>= (λ o. if o.made.class_number == string_number then f o.content.bytes else fail no_feature)

-- the other step is taken where the value is no integer
abbrev pub if_integer : {A : Type 0} → Value → (ℤ → Does A) → Does A → Does A
if_integer (integer n) f m = f n
if_integer _ f m = m
