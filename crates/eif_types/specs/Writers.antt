-- Classes whose written types are judged.
use Rattle.std.specs.Prelude.{◌≡◌, ℕ, List, Some, slice_get}
use Rattle.eif_tree.specs.Tree.{ClassT}
use Rattle.eif_tree.specs.View.{class_view}
use Rattle.eif_types.specs.TypeTables.{AreTypesOf}
use Rattle.eif_types.specs.declared.actual_faults.Writer.{Writer}
use Rattle.eif_universe.specs.Universes.{classes_of}

-- the universe of the class
abbrev pub universe_of : Writer → List ClassT
universe_of x = classes_of x.u.now

-- the class
abbrev pub class_of : Writer → ClassT
class_of x = class_view x.class.now

-- it is one of the universe, and the types are those of the universe
pub record IsWriter (x : Writer) : Type 0 where
  pub types_are : AreTypesOf (universe_of x) x.types.now
  pub class_is : slice_get (universe_of x) x.class_id.0 ≡ Some (class_of x)

-- the class c is one of the universe
abbrev pub HasBase : Writer → ClassT → Type 0
HasBase x c = (k : ℕ) × (slice_get (universe_of x) k ≡ Some c)
