-- The numbers of the kernel's classes, which are the same in each universe.
use Rattle.std.specs.Prelude.{ℕ, ◌==◌, Bool, ◌||◌}

-- ANY
abbrev pub any_number : ℕ
any_number = 0

-- INTEGER
abbrev pub integer_number : ℕ
integer_number = 1

-- BOOLEAN
abbrev pub boolean_number : ℕ
boolean_number = 2

-- CHARACTER
abbrev pub character_number : ℕ
character_number = 3

-- STRING
abbrev pub string_number : ℕ
string_number = 4

-- ARRAY [G]
abbrev pub array_number : ℕ
array_number = 5

-- the classes whose values are no references
abbrev pub is_basic : ℕ → Bool
is_basic k = (k == integer_number) || (k == boolean_number) || (k == character_number)
