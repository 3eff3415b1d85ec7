-- What an assignment or a creation sets: its target, and the type that a creation takes from it.
use Rattle.std.specs.Prelude.{ℕ, if◌then◌else◌, List, Option, Some, None}
use Rattle.std.specs.Option.{option_map}
use Rattle.std.specs.Str.{bytes_eq}
use Rattle.eif_tree.specs.Members.{result_name}
use Rattle.eif_tree.specs.Tree.{TypeT}
use Rattle.eif_classes.specs.Types.{TyT}
use Rattle.eif_meaning.specs.Values.{Value, Object, Seen, State, no_feature, done, Does, ◌>>=◌, fail, some_or}
use Rattle.eif_meaning.specs.Objects.{set_at, result_type, field_type, object_at, replace_object}
use Rattle.eif_meaning.specs.Frames.{Frame, written_type, Entity, argument, local, entity}

-- ---- what is set; an argument, a test local and a routine take nothing

-- only a function has a `Result`
abbrev pub set_result : Option TypeT → Value → Does (Unit {0})
set_result None v = fail no_feature
set_result (Some t) v = λ s. done (record s { result = Some v }) tt

-- the other locals stay
abbrev pub set_local : List ℕ → Value → Does (Unit {0})
set_local x v s = done (record s { local = set_at x (Some v) s.local }) tt

-- an object with another value in a field
abbrev pub with_field : List ℕ → Value → Object → Object
with_field n v o = record o { field = set_at n (Some v) o.field }

-- the field that Current has for a name of the text
abbrev pub set_field : Frame → List ℕ → Value → Does (Unit {0})
set_field c x v =
    object_at c.current >>= (λ o. some_or no_feature (c.system.bind o.made.class_number c.class_number x)
    (λ n. some_or no_feature (field_type c.system o.made.class_number n)
    (λ _. replace_object c.current (with_field n v o))))

-- a local, or else a field
abbrev pub set_entity : Frame → Option Entity → List ℕ → Value → Does (Unit {0})
set_entity c None x v = set_field c x v
set_entity c (Some (argument t)) x v = fail no_feature
set_entity c (Some (local t)) x v = set_local x v

-- a bound test local hides what has its name
abbrev pub unless_bound : Option Seen → Does (Unit {0}) → Does (Unit {0})
unless_bound None m = m
unless_bound (Some w) m = fail no_feature

-- `Result`, a local or a field
abbrev pub set_target : Frame → List ℕ → Value → Does (Unit {0})
set_target c x v =
    if bytes_eq x result_name
    then set_result c.tree.result_type v
    else (λ s. unless_bound (s.test x) (set_entity c (entity c.tree x) x v) s)

-- ---- the type of what a creation makes

-- of an argument, a local or a feature
abbrev pub entity_type : Frame → Option Entity → List ℕ → Option TyT
entity_type c None x = result_type c.system c.class_number x
entity_type c (Some (argument t)) x = Some (written_type c t)
entity_type c (Some (local t)) x = Some (written_type c t)

-- of a test local, where it is bound
abbrev pub bound_type : Option Seen → Option TyT → Option TyT
bound_type None o = o
bound_type (Some w) o = Some w.type

-- of a target
abbrev pub target_type : Frame → List ℕ → State → Option TyT
target_type c x s =
    if bytes_eq x result_name
    then option_map (written_type c) c.tree.result_type
    else bound_type (s.test x) (entity_type c (entity c.tree x) x)

-- the one that is written, else that of the target
abbrev pub created_type : Frame → Option TypeT → List ℕ → State → Option TyT
created_type c (Some t) x s = Some (written_type c t)
created_type c None x s = target_type c x s
