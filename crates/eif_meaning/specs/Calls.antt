-- Calls: a feature on a value, a name, the version of a parent. Arguments are evaluated before.
use Rattle.std.specs.Prelude.{ℕ, Bool, true, false, if◌then◌else◌, List, [], ◌∷◌, Option, Some, None}
use Rattle.std.specs.Option.{option_map, option_and_then, option_zip}
use Rattle.eif_classes.specs.Entries.{Declaration}
use Rattle.eif_classes.specs.Features.{is_attribute}
use Rattle.eif_classes.specs.Types.{TyT, class_type, formal_type, put_in, put_in_all}
use Rattle.eif_meaning.specs.Values.{Value, void, ClassType, Object, Store, Seen, void_target, unset, no_feature, Outcome, done, wrong, Does, after, ◌>>=◌, give, fail, some_or}
use Rattle.eif_meaning.specs.System.{Version, System}
use Rattle.eif_meaning.specs.Objects.{object_of, object_at}
use Rattle.eif_meaning.specs.Frames.{Body, Runner, Frame, written_type, Entity, argument, local, entity, takes}
use Rattle.eif_meaning.specs.Operands.{give_seen}

-- ---- a body

-- a declaration on an object, with the actuals that its class has there
abbrev pub body_on : System → Declaration → Object → Option Body
body_on system d o =
    option_map (λ xs. record { declaration = d; actuals = put_in_all o.made.actuals xs })
    (system.ancestry o.made.class_number d.class_number)

-- whether the body takes so many arguments is asked before the bound on levels
abbrev pub run_body : Runner → Value → List Value → Option Body → Store → Outcome Store (Option Value)
run_body run v vs None s = wrong no_feature s.printed
run_body run v vs (Some b) s = if takes b.tree vs then run v b vs s else wrong no_feature s.printed

-- a declaration on a value
abbrev pub run_declaration :
    System → Runner → Value → Declaration → List Value → Store → Outcome Store (Option Value)
run_declaration system run v d vs s = run_body run v vs (option_and_then (body_on system d) (object_of s.heap v)) s

-- the same from a frame, which keeps its own state
abbrev pub enter : Frame → Value → Declaration → List Value → Does (Option Value)
enter c v d vs s = after (run_declaration c.system c.again v d vs s.store) (λ t a. done (record s { store = t }) a)

-- ---- a feature on a value

-- the read of a field, which is no call
abbrev pub read_field : Object → List ℕ → List Value → Does (Option Value)
read_field o n [] = some_or unset (o.field n) (λ v. give (Some v))
read_field o n (v ∷ vs) = fail no_feature

-- name n of the object's own class
abbrev pub use_feature : Frame → Value → Object → List ℕ → List Value → Declaration → Does (Option Value)
use_feature c v o n vs d = if is_attribute d.tree.kind then read_field o n vs else enter c v d vs

-- feature x of class b, bound by the class of the object
abbrev pub feature_on : Frame → Value → ℕ → List ℕ → List Value → Does (Option Value)
feature_on c v b x vs =
    object_at v >>= (λ o. some_or no_feature (c.system.bind o.made.class_number b x)
    (λ n. some_or no_feature (c.system.origin o.made.class_number n) (use_feature c v o n vs)))

-- a value under a type, where both are there
abbrev pub seen_as : Option TyT → Option Value → Option Seen
seen_as t v = option_map (λ p. record { value = p.0; type = p.1 }) (option_zip v t)

-- the same under the type that the feature has in class b, which `see` makes one of the text's class
abbrev pub feature_of : Frame → (TyT → TyT) → Value → ℕ → List ℕ → List Value → Does (Option Seen)
feature_of c see v b x vs =
    some_or no_feature (c.system.signature b x)
    (λ g. feature_on c v b x vs >>= (λ a. give (seen_as (option_map see g.result) a)))

-- ---- a qualified call

-- Void alone is no object
abbrev pub is_void : Value → Bool
is_void void = true
is_void _ = false

-- a class type without its mark
abbrev pub unmarked : TyT → Option ClassType
unmarked (class_type d m ts) = Some (record { class_number = d; actuals = ts })
unmarked _ = None

-- the class through which a value of the type is seen in class k: of a formal that of its constraint
abbrev pub seen_class : System → ℕ → TyT → Option ClassType
seen_class system k (formal_type i m) = option_and_then unmarked (system.constraint k i)
seen_class system k t = unmarked t

-- through a class with actuals
abbrev pub through : Frame → Option ClassType → Value → List ℕ → List Value → Does (Option Seen)
through c None v x vs = fail no_feature
through c (Some t) v x vs = feature_of c (put_in t.actuals) v t.class_number x vs

-- Void is told after the arguments were evaluated
abbrev pub call_on : Frame → Seen → List ℕ → List Value → Does (Option Seen)
call_on c v x vs =
    if is_void v.value then fail void_target
    else through c (seen_class c.system c.class_number v.type) v.value x vs

-- ---- a name

-- seen under the type that is written
abbrev pub read_entity : Frame → List ℕ → Entity → Does (Option Seen)
read_entity c x (argument t) = some_or unset (c.argument x) (λ v. give_seen v (written_type c t))
read_entity c x (local t) = λ s. some_or unset (s.local x) (λ v. give_seen v (written_type c t)) s

-- an entity takes no arguments
abbrev pub entity_or_feature : Frame → List ℕ → List Value → Option Entity → Does (Option Seen)
entity_or_feature c x vs None = feature_of c (λ t. t) c.current c.class_number x vs
entity_or_feature c x [] (Some e) = read_entity c x e
entity_or_feature c x (v ∷ vs) (Some e) = fail no_feature

-- the value of a test local, where it is bound
abbrev pub bound_or : Option Seen → List Value → Does (Option Seen) → Does (Option Seen)
bound_or None vs m = m
bound_or (Some w) [] m = give (Some w)
bound_or (Some w) (v ∷ vs) m = fail no_feature

-- a bound test local, an argument, a local, or else a feature of Current
abbrev pub call_name : Frame → List ℕ → List Value → Does (Option Seen)
call_name c x vs = λ s. bound_or (s.test x) vs (entity_or_feature c x vs (entity c.tree x)) s

-- the version of a parent on Current
abbrev pub call_version : Frame → Option Version → List Value → Does (Option Seen)
call_version c None vs = fail no_feature
call_version c (Some p) vs = enter c c.current p.declaration vs >>= (λ a. give (seen_as p.signature.result a))
