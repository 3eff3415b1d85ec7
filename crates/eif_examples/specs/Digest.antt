-- One number for a list of numbers, and which places of a tree are read.
use Rattle.std.specs.Prelude.{ℕ, ◌+◌, ◌*◌, ◌%◌, ◌==◌, Bool, ◌||◌, List}
use Rattle.std.specs.List.{fold, list_any}
use Rattle.eif_base.specs.declared.Place.{Place}
use Rattle.eif_examples.specs.declared.places.Places.{Places}

-- 2 ^ 61 - 1, a prime
abbrev pub modulus : ℕ
modulus = 2305843009213693951

abbrev pub base : ℕ
base = 1537228672809129301

-- the value of a polynomial of which all coefficients but the last were read before
unfoldable pub mix : ℕ → ℕ → ℕ
mix value coefficient = (value * base + coefficient) % modulus

-- the value once these numbers are read too
abbrev pub after : ℕ → List ℕ → ℕ
after value numbers = fold mix value numbers

abbrev pub digest : List ℕ → ℕ
digest numbers = after 0 numbers

-- all places, or those with its offsets alone
abbrev pub reads_of : Places → Place → Bool
reads_of p place = p.all || list_any (λ offset. offset == place.offset) p.offsets.now
