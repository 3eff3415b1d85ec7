-- Facts: a name is attached, or the local of an object test may be used.
use Rattle.std.specs.Prelude.{ℕ, nat_lt, Bool, true, false, not, ◌||◌, if◌then◌else◌, List, [], ◌∷◌, Option, Some, None}
use Rattle.std.specs.List.{filter}
use Rattle.std.specs.Str.{bytes_eq}
use Rattle.eif_base.specs.declared.place.Place.{Place}
use Rattle.eif_classes.specs.Types.{TyT}

-- an object test whose local may be used: the place of the test, the type of the local, if it has one
pub record Usable : Type 0 where
  pub place : Place
  pub type : Option TyT

pub data Fact : Type 0 where
  attached : List ℕ → Fact
  usable : List ℕ → Usable → Fact

-- the name is known to be attached
abbrev pub is_known_attached : List Fact → List ℕ → Bool
is_known_attached [] x = false
is_known_attached (attached y ∷ k) x = bytes_eq y x || is_known_attached k x
is_known_attached (usable y t ∷ k) x = is_known_attached k x

-- of two tests of one name the earlier in the text
abbrev pub earlier : Usable → Option Usable → Usable
earlier t None = t
earlier t (Some u) = if nat_lt u.place.offset t.place.offset then u else t

-- the test whose local of that name may be used
abbrev pub usable_test : List Fact → List ℕ → Option Usable
usable_test [] x = None
usable_test (attached y ∷ k) x = usable_test k x
usable_test (usable y t ∷ k) x = if bytes_eq y x then Some (earlier t (usable_test k x)) else usable_test k x

abbrev pub is_kept : (List ℕ → Bool) → Fact → Bool
is_kept gone (attached x) = not (gone x)
is_kept gone (usable x t) = true

-- without what is known of those names; a test's local stays usable
abbrev pub forgotten : (List ℕ → Bool) → List Fact → List Fact
forgotten gone k = filter (is_kept gone) k
