-- Creations: an object is made, and then its creator runs on it.
use Rattle.std.specs.Prelude.{ℕ, if◌then◌else◌, List, Option, Some, None}
use Rattle.eif_classes.specs.Entries.{Declaration}
use Rattle.eif_classes.specs.KernelNumbers.{any_number}
use Rattle.eif_classes.specs.Types.{TyT, attached_form}
use Rattle.eif_meaning.specs.Values.{Value, ClassType, Seen, no_feature, Does, ◌>>=◌, give, fail, some_or}
use Rattle.eif_meaning.specs.KernelTypes.{default_create_name}
use Rattle.eif_meaning.specs.Objects.{new_object, allocate}
use Rattle.eif_meaning.specs.Frames.{Frame, closed_type}
use Rattle.eif_meaning.specs.Operands.{give_seen}
use Rattle.eif_meaning.specs.Calls.{enter, unmarked}

-- where none is named, what the class has for the one of ANY
abbrev pub creator_name : Frame → ℕ → Option (List ℕ) → Option (List ℕ)
creator_name c d None = c.system.bind d any_number default_create_name
creator_name c d (Some f) = Some f

-- the object is there before its creator runs on it
abbrev pub make_by : Frame → ClassType → List Value → Declaration → Does Value
make_by c t vs d = allocate (new_object c.system t) >>= (λ v. enter c v d vs >>= (λ _. give v))

-- of a class that may have instances
abbrev pub make_of : Frame → Option (List ℕ) → List Value → ClassType → Does Value
make_of c f vs t =
    if c.system.is_creatable t.class_number
    then some_or no_feature (creator_name c t.class_number f)
    (λ n. some_or no_feature (c.system.origin t.class_number n) (make_by c t vs))
    else fail no_feature

-- an object of a type that the text sees, closed by the actuals of the frame; the text sees it as attached
abbrev pub create_object : Frame → Option (List ℕ) → List Value → TyT → Does (Option Seen)
create_object c f vs t =
    some_or no_feature (unmarked (closed_type c t)) (make_of c f vs) >>= (λ v. give_seen v (attached_form t))
