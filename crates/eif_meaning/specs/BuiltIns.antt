-- The bodies that are built in.
use Rattle.std.specs.Prelude.{ℕ, ℤ, pos, negsuc, ◌+ℤ◌, ◌-ℤ◌, ◌==◌, if◌then◌else◌, List, [], ◌∷◌, ◌++◌, length, replicate, Option, Some, None, nat_lt, nat_le, slice_get, slice_set, codes}
use Rattle.std.specs.Option.{option_and_then}
use Rattle.std.specs.Fmt.{signed_decimal}
use Rattle.std.specs.Int.{w64, int_wrapping_add}
use Rattle.eif_classes.specs.KernelNumbers.{any_number, string_number}
use Rattle.eif_classes.specs.Types.{no_actuals}
use Rattle.eif_meaning.specs.Values.{Value, integer, boolean, character, ClassType, Content, Object, no_feature, done, Does, ◌>>=◌, give, fail, stop, some_or_stop, need}
use Rattle.eif_meaning.specs.KernelBodies.{BuiltIn, do_nothing, out, print, code, make_empty, string_count, is_empty, string_item, append, make_filled, array_item, put, array_count, lower, upper}
use Rattle.eif_meaning.specs.System.{System}
use Rattle.eif_meaning.specs.KernelTypes.{out_name}
use Rattle.eif_meaning.specs.Objects.{string_object, object_at, allocate, replace_object}
use Rattle.eif_meaning.specs.Frames.{Frame}
use Rattle.eif_meaning.specs.Calls.{is_void, through}
use Rattle.eif_meaning.specs.Operands.{most_items, bytes_or_stop, as_integer, as_bytes, as_character}

-- ---- what they share

-- a function's value
abbrev pub give_value : Value → Does (Option Value)
give_value v = give (Some v)

-- what Current holds
abbrev pub own_content : {A : Type 0} → Frame → (Content → Does A) → Does A
own_content c f = object_at c.current >>= (λ o. f o.content)

-- with other content, and no value
abbrev pub set_content : Frame → Content → Does (Option Value)
set_content c content =
    object_at c.current >>= (λ o. replace_object c.current (record o { content = content }) >>= (λ _. give None))

-- with other bytes
abbrev pub set_bytes : Frame → List ℕ → Does (Option Value)
set_bytes c bytes = own_content c (λ k. set_content c (record k { bytes = bytes }))

-- prints
abbrev pub write : List ℕ → Does (Option Value)
write bytes s = done (record s { store = record s.store { printed = s.store.printed ++ bytes } }) None

-- a number that is not negative
abbrev pub as_count : ℤ → Option ℕ
as_count (pos n) = Some n
as_count (negsuc n) = None

-- how far an index is from the lowest, where the list has an item there
abbrev pub offset_of : {A : Type 0} → ℤ → List A → ℤ → Option ℕ
offset_of lowest xs i =
    option_and_then (λ n. if nat_lt n (length xs) then Some n else None) (as_count (i -ℤ lowest))

-- the item of an index
abbrev pub item_at : {A : Type 0} → ℤ → List A → ℤ → Option A
item_at lowest xs i = option_and_then (slice_get xs) (offset_of lowest xs i)

-- ---- texts

-- digits with `-`, `True` or `False`, the byte, the bytes of a STRING, else the name of the class
abbrev pub text_of : System → Value → Object → List ℕ
text_of system (integer n) o = signed_decimal n
text_of system (boolean b) o = if b then codes "True" else codes "False"
text_of system (character n) o = n ∷ []
text_of system v o =
    if o.made.class_number == string_number then o.content.bytes else system.name_of o.made.class_number

-- a new STRING with the text of Current
abbrev pub run_out : Frame → Does (Option Value)
run_out c = object_at c.current >>= (λ o. allocate (string_object (text_of c.system c.current o)) >>= give_value)

-- ANY without its mark
abbrev pub any_class : ClassType
any_class = record { class_number = any_number; actuals = no_actuals }

-- `out` is called on every value but Void, through ANY
abbrev pub run_print : Frame → Value → Does (Option Value)
run_print c v =
    if is_void v then write (codes "Void")
    else ((through c (Some any_class) v out_name [] >>= need) >>= (λ w. as_bytes w.value write))

-- ---- lists

-- so many times the value, from that index on
abbrev pub fill : Frame → Value → ℤ → ℕ → Does (Option Value)
fill c v lowest n = own_content c (λ k. set_content c (record k { lowest = lowest; values = replicate n v }))

-- as many as there are exactly from one index to the other; a negative number and one past the greatest are a stop
abbrev pub fill_between : Frame → Value → ℤ → ℤ → Does (Option Value)
fill_between c v lo up =
    some_or_stop (as_count ((up -ℤ lo) +ℤ pos 1)) (λ n. if nat_le n most_items then fill c v lo n else stop)

-- in the place of an index
abbrev pub put_at : Frame → Value → ℤ → Content → Does (Option Value)
put_at c v i k =
    some_or_stop (offset_of k.lowest k.values i)
    (λ n. set_content c (record k { values = slice_set k.values n v }))

-- the item of an index of a STRING, which begins at 1
abbrev pub give_byte : ℤ → Content → Does (Option Value)
give_byte i k = some_or_stop (item_at (pos 1) k.bytes i) (λ n. give_value (character n))

-- the item of an index of an ARRAY
abbrev pub give_item : ℤ → Content → Does (Option Value)
give_item i k = some_or_stop (item_at k.lowest k.values i) give_value

-- the bytes behind those of Current
abbrev pub append_bytes : Frame → List ℕ → Does (Option Value)
append_bytes c bytes = own_content c (λ k. bytes_or_stop (k.bytes ++ bytes) (set_bytes c))

-- the highest index, wrapped
abbrev pub highest : Content → ℤ
highest k = int_wrapping_add w64 k.lowest (pos (length k.values) -ℤ pos 1)

-- what each does on Current with its arguments; past the ends of a list is a stop
abbrev pub run_built_in : Frame → BuiltIn → List Value → Does (Option Value)
run_built_in c do_nothing [] = give None
run_built_in c out [] = run_out c
run_built_in c print (v ∷ []) = run_print c v
run_built_in c code [] = as_character c.current (λ n. give_value (integer (pos n)))
run_built_in c make_empty [] = set_bytes c []
run_built_in c string_count [] = own_content c (λ k. give_value (integer (pos (length k.bytes))))
run_built_in c is_empty [] = own_content c (λ k. give_value (boolean (length k.bytes == 0)))
run_built_in c string_item (v ∷ []) = as_integer v (λ i. own_content c (give_byte i))
run_built_in c append (v ∷ []) = as_bytes v (append_bytes c)
run_built_in c make_filled (v ∷ lo ∷ up ∷ []) = as_integer lo (λ m. as_integer up (λ n. fill_between c v m n))
run_built_in c array_item (v ∷ []) = as_integer v (λ i. own_content c (give_item i))
run_built_in c put (v ∷ w ∷ []) = as_integer w (λ i. own_content c (put_at c v i))
run_built_in c array_count [] = own_content c (λ k. give_value (integer (pos (length k.values))))
run_built_in c lower [] = own_content c (λ k. give_value (integer k.lowest))
run_built_in c upper [] = own_content c (λ k. give_value (integer (highest k)))
run_built_in c _ _ = fail no_feature
