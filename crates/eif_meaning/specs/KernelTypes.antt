-- The types of the kernel's classes without formals, and the names of ANY's features that a run itself asks for.
use Rattle.std.specs.Prelude.{ℕ, List, codes}
use Rattle.eif_tree.specs.declared.tree.Mark.TheVariants.{Attached}
use Rattle.eif_classes.specs.KernelNumbers.{integer_number, boolean_number, character_number, string_number}
use Rattle.eif_classes.specs.Types.{TyT, class_type, no_actuals}

-- the attached type of a class without formals
abbrev pub plain_type : ℕ → TyT
plain_type d = class_type d Attached no_actuals

-- INTEGER
abbrev pub integer_type : TyT
integer_type = plain_type integer_number

-- BOOLEAN
abbrev pub boolean_type : TyT
boolean_type = plain_type boolean_number

-- CHARACTER
abbrev pub character_type : TyT
character_type = plain_type character_number

-- STRING
abbrev pub string_type : TyT
string_type = plain_type string_number

-- the creation procedure that every class has from ANY
abbrev pub default_create_name : List ℕ
default_create_name = codes "default_create"

-- the function that gives the text of a value
abbrev pub out_name : List ℕ
out_name = codes "out"
