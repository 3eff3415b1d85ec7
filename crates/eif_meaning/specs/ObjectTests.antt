-- Object tests: whether one holds, and its local.
use Rattle.std.specs.Prelude.{Bool, true, false, not, List, Option, Some, None}
use Rattle.std.specs.Option.{option_map_or}
use Rattle.eif_tree.specs.declared.tree.NameAt.{NameAt}
use Rattle.eif_tree.specs.Tree.{TypeT}
use Rattle.eif_classes.specs.Types.{TyT, attached_form}
use Rattle.eif_meaning.specs.Values.{Value, Object, Seen, Does}
use Rattle.eif_meaning.specs.System.{System}
use Rattle.eif_meaning.specs.Objects.{set_at, type_of, object_of}
use Rattle.eif_meaning.specs.Frames.{Frame, written_type, closed_type}
use Rattle.eif_meaning.specs.Calls.{is_void}
use Rattle.eif_meaning.specs.Operands.{give_boolean}

-- the value is an object whose closed type conforms to the closed type
abbrev pub is_of : System → List Object → TyT → Value → Bool
is_of system heap t v = option_map_or (λ o. system.conforms (type_of o) t) (object_of heap v) false

-- of a written type in its attached form; without one every value but Void will do
abbrev pub holds : Frame → List Object → Option TypeT → Value → Bool
holds c heap None v = not (is_void v)
holds c heap (Some t) v = is_of c.system heap (attached_form (closed_type c (written_type c t))) v

-- the type of its local: the one that is written, else that of the tested expression
abbrev pub local_type : Frame → Option TypeT → TyT → TyT
local_type c None u = attached_form u
local_type c (Some t) u = attached_form (written_type c t)

-- a test that does not hold leaves its local as it was bound before
abbrev pub bind_local : Option NameAt → Seen → Bool → Does (Option Seen)
bind_local (Some y) w true s = give_boolean true (record s { test = set_at y.name (Some w) s.test })
bind_local _ w b s = give_boolean b s

-- the tested value is there
abbrev pub run_test : Frame → Option TypeT → Option NameAt → Seen → Does (Option Seen)
run_test c t y v s =
    bind_local y (record { value = v.value; type = local_type c t v.type }) (holds c s.store.heap t v.value) s
