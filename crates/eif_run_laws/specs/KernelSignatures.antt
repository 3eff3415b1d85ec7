-- The signatures of the routines whose bodies are built in, over the formals of their classes.
use Rattle.std.specs.Prelude.{ℕ, List, [], ◌∷◌, Some, None}
use Rattle.eif_tree.specs.declared.tree.Mark.TheVariants.{Plain, Detachable}
use Rattle.eif_classes.specs.KernelNumbers.{any_number, character_number, string_number, array_number}
use Rattle.eif_classes.specs.Signatures.{Signature}
use Rattle.eif_classes.specs.Types.{TyT, class_type, formal_type, no_actuals}
use Rattle.eif_meaning.specs.KernelBodies.{BuiltIn, do_nothing, out, print, code, make_empty, string_count, is_empty, string_item, append, make_filled, array_item, put, array_count, lower, upper}
use Rattle.eif_meaning.specs.KernelTypes.{integer_type, boolean_type, character_type, string_type}

-- the class that declares the routine
abbrev pub class_with : BuiltIn → ℕ
class_with do_nothing = any_number
class_with out = any_number
class_with print = any_number
class_with code = character_number
class_with make_empty = string_number
class_with string_count = string_number
class_with is_empty = string_number
class_with string_item = string_number
class_with append = string_number
class_with make_filled = array_number
class_with array_item = array_number
class_with put = array_number
class_with array_count = array_number
class_with lower = array_number
class_with upper = array_number

-- the formal of ARRAY
abbrev item_type : TyT
item_type = formal_type 0 Plain

abbrev command : List TyT → Signature
command arguments = record { arguments = arguments; result = None }

abbrev query : List TyT → TyT → Signature
query arguments t = record { arguments = arguments; result = Some t }

abbrev pub signature_of : BuiltIn → Signature
signature_of do_nothing = command []
signature_of out = query [] string_type
signature_of print = command (class_type any_number Detachable no_actuals ∷ [])
signature_of code = query [] integer_type
signature_of make_empty = command []
signature_of string_count = query [] integer_type
signature_of is_empty = query [] boolean_type
signature_of string_item = query (integer_type ∷ []) character_type
signature_of append = command (string_type ∷ [])
signature_of make_filled = command (item_type ∷ integer_type ∷ integer_type ∷ [])
signature_of array_item = query (integer_type ∷ []) item_type
signature_of put = command (item_type ∷ integer_type ∷ [])
signature_of array_count = query [] integer_type
signature_of lower = query [] integer_type
signature_of upper = query [] integer_type
