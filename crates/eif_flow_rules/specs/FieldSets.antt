-- Sets of fields. A set is a test of names.
use Rattle.std.specs.Prelude.{ℕ, Bool, false, not, ◌&&◌, ◌||◌, List}
use Rattle.std.specs.Str.{bytes_eq}

-- the names for which it is true
abbrev pub FieldSet : Type 0
FieldSet = List ℕ → Bool

-- the empty set
abbrev pub no_fields : FieldSet
no_fields n = false

-- the one field of that name
abbrev pub only : List ℕ → FieldSet
only x = λ n. bytes_eq x n

-- in one of them at least
abbrev pub union : FieldSet → FieldSet → FieldSet
union s t = λ n. s n || t n

-- in both
abbrev pub common : FieldSet → FieldSet → FieldSet
common s t = λ n. s n && t n

-- in the first and not in the second
abbrev pub without : FieldSet → FieldSet → FieldSet
without s t = λ n. s n && not (t n)
