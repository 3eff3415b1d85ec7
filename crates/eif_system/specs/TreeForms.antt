-- Trees of class texts, written in a few words.
use Rattle.std.specs.Prelude.{ℕ, ◌+◌, ◌-◌, false, List, [], ◌∷◌, sum, take, Option, Some, None}
use Rattle.eif_base.specs.declared.place.Place.{Place}
use Rattle.eif_base.specs.declared.place.TheConstants.{NO_FILE}
use Rattle.eif_tree.specs.declared.tree.NameAt.{NameAt}
use Rattle.eif_tree.specs.declared.tree.Mark.TheVariants.{Plain, Detachable}
use Rattle.eif_tree.specs.Tree.{TypeT, type_at, no_types, no_exs, Inss, KindT, attribute, deferred_body, routine, GroupT, DeclT, no_clients, ParentT, CreatorsT, FeaturesT, ClassT}

-- the place of what stands in no file
abbrev pub nowhere : Place
nowhere = record { file = NO_FILE; offset = 0; line = 0; column = 0 }

-- in a text that is one line
abbrev pub inline : ℕ → ℕ → Place
inline file column = record { file = file; offset = column - 1; line = 1; column = column }

-- in a text whose lines have these lengths, with their line feeds
abbrev pub spot : ℕ → List ℕ → ℕ → ℕ → Place
spot file lengths line column = record { file = file; offset = sum (take (line - 1) lengths) + (column - 1); line = line; column = column }

abbrev pub named : Place → List ℕ → NameAt
named place name = record { place = place; name = name }

abbrev pub unmarked : Place → List ℕ → TypeT
unmarked place name = type_at place place Plain name no_types

abbrev pub detachable : Place → Place → List ℕ → TypeT
detachable place name_place name = type_at place name_place Detachable name no_types

-- a class with nothing in it
abbrev pub bare_class : Place → List ℕ → ClassT
bare_class place name = record { place = place; name = name; is_deferred = false; formals = []; parents = []; creators = []; features = []; invariants = no_exs }

-- a parent clause without an adaptation
abbrev pub parent_clause : TypeT → ParentT
parent_clause t = record { parent = t; renames = []; exports = []; undefines = []; redefines = []; selects = [] }

abbrev pub created_by : List NameAt → List CreatorsT
created_by names = record { clients = no_clients; names = names } ∷ []

abbrev pub with_features : List DeclT → List FeaturesT
with_features decls = record { clients = no_clients; decls = decls } ∷ []

abbrev pub declared : NameAt → List GroupT → Option TypeT → KindT → DeclT
declared n arguments result kind = record { names = n ∷ []; arguments = arguments; result_type = result; kind = kind; preconditions = no_exs; postconditions = no_exs }

abbrev pub procedure : NameAt → Inss → DeclT
procedure n body = declared n [] None (routine [] body)

abbrev pub attribute_of : NameAt → TypeT → DeclT
attribute_of n t = declared n [] (Some t) attribute

abbrev pub deferred_procedure : NameAt → DeclT
deferred_procedure n = declared n [] None deferred_body

abbrev pub argument : NameAt → TypeT → GroupT
argument n t = record { names = n ∷ []; type_tree = t }
