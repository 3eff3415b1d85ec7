-- The numbers that names of classes have.
use Rattle.std.specs.Prelude.{◌≡◌, ℕ, Bool, if◌then◌else◌, List, length, take, slice_get, Option, Some, None, is_some}
use Rattle.std.specs.Str.{bytes_eq}
use Rattle.indexmap.specs.IndexMap.{get_by}
use Rattle.eif_tree.specs.Tree.{ClassT}
use Rattle.eif_system.specs.Universe.{class_number}
use Rattle.eif_universe.specs.declared.class_numbers.ClassNumbers.{ClassNumbers}

-- the number that is given for a name
abbrev pub number_in : ClassNumbers → List ℕ → Option ℕ
number_in m n = get_by (λ k. bytes_eq n k.items) m.numbers

-- the number of the name n, once a number is there for `name` too: the first one stays
abbrev pub or_number : Option ℕ → List ℕ → ℕ → List ℕ → Option ℕ
or_number (Some d) name number n = Some d
or_number None name number n = if bytes_eq n name then Some number else None

-- each name has the number of the first class with it
abbrev pub IsNumbering : List ClassT → ClassNumbers → Type 0
IsNumbering u m = (n : List ℕ) → number_in m n ≡ class_number u n

-- a class before the d-th has the name
abbrev pub is_taken : List ClassT → ℕ → List ℕ → Bool
is_taken u d n = is_some (class_number (take d u) n)

-- a mark for each class: whether an earlier one has its name
pub record MarksRepeats (u : List ClassT) (marks : List Bool) : Type 0 where
  pub long : length marks ≡ length u
  pub each : (d : ℕ) (c : ClassT) → slice_get u d ≡ Some c → slice_get marks d ≡ Some (is_taken u d c.name)
