-- The routines of the kernel, whose bodies are built in.
use Rattle.std.specs.Prelude.{ℕ, ◌==◌, if◌then◌else◌, List, [], ◌∷◌, Option, find, codes}
use Rattle.std.specs.Option.{option_map}
use Rattle.std.specs.Str.{bytes_eq}
use Rattle.eif_classes.specs.KernelNumbers.{any_number, character_number, string_number, array_number}

-- one for each routine: those of ANY, of CHARACTER, of STRING and of ARRAY
pub data BuiltIn : Type 0 where
  do_nothing out print : BuiltIn
  code : BuiltIn
  make_empty string_count is_empty string_item append : BuiltIn
  make_filled array_item put array_count lower upper : BuiltIn

-- a built-in body and the name of its routine
pub record KernelRoutine : Type 0 where
  pub name : List ℕ
  pub body : BuiltIn

-- a routine by its parts
abbrev routine : List ℕ → BuiltIn → KernelRoutine
routine n b = record { name = n; body = b }

-- those of ANY
abbrev pub any_routines : List KernelRoutine
any_routines =
    routine (codes "default_create") do_nothing ∷ routine (codes "out") out ∷ routine (codes "print") print ∷ []

-- those of STRING
abbrev pub string_routines : List KernelRoutine
string_routines =
    routine (codes "make_empty") make_empty ∷ routine (codes "count") string_count
    ∷ routine (codes "is_empty") is_empty ∷ routine (codes "item") string_item
    ∷ routine (codes "append") append ∷ []

-- those of ARRAY
abbrev pub array_routines : List KernelRoutine
array_routines =
    routine (codes "make_filled") make_filled ∷ routine (codes "item") array_item ∷ routine (codes "put") put
    ∷ routine (codes "count") array_count ∷ routine (codes "lower") lower ∷ routine (codes "upper") upper ∷ []

-- those that a class declares; a class that is not the kernel's has none
abbrev pub kernel_routines : ℕ → List KernelRoutine
kernel_routines k =
    if k == any_number then any_routines
    else if k == character_number then routine (codes "code") code ∷ []
    else if k == string_number then string_routines
    else if k == array_number then array_routines
    else []

-- the built-in body of a routine, by its class and its name there
abbrev pub built_in_body : ℕ → List ℕ → Option BuiltIn
built_in_body k n = option_map (λ r. r.body) (find (λ r. bytes_eq r.name n) (kernel_routines k))
