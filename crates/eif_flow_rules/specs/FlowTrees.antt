-- What a text does to the fields of the current object, in the order of evaluation. Its names are resolved: fields have
-- the names of the object's class, and a body is the declaration that has it.
use Rattle.std.specs.Prelude.{ℕ, List, [], ◌∷◌, ◌++◌}
use Rattle.eif_base.specs.declared.place.Place.{Place}
use Rattle.eif_classes.specs.Entries.{Declaration}

pub data Flow : Type 0 where
  -- nothing
  idle : Flow
  -- a field is read
  reads : Place → List ℕ → Flow
  -- `Current` is handed out
  shows : Place → Flow
  -- a field is set
  sets : List ℕ → Flow
  -- a body runs on the same object
  calls : Place → Declaration → Flow
  -- the one and then the other
  in_turn : Flow → Flow → Flow
  -- what may run or not: what it sets isn't counted
  aside : Flow → Flow
  -- one of the two
  one_of : Flow → Flow → Flow

-- the bodies that are called, in order
abbrev pub callees : Flow → List Declaration
callees idle = []
callees (reads p n) = []
callees (shows p) = []
callees (sets n) = []
callees (calls p x) = x ∷ []
callees (in_turn a b) = callees a ++ callees b
callees (aside a) = callees a
callees (one_of a b) = callees a ++ callees b
