-- Class texts in a few words, with the places of their names. A text is one line, where nothing else is said.
use Prim.Native.String.{String}
use Rattle.std.specs.Prelude.{ℕ, true, List, [], Some, None, codes}
use Rattle.eif_base.specs.declared.place.Place.{Place}
use Rattle.eif_tree.specs.declared.tree.Literal.{Literal}
use Rattle.eif_tree.specs.declared.tree.Mark.TheVariants.{Plain, Attached, Detachable}
use Rattle.eif_tree.specs.declared.tree.NameAt.{NameAt}
use Rattle.eif_tree.specs.declared.tree.RenamePair.{RenamePair}
use Rattle.eif_tree.specs.Tree.{TypeT, type_at, no_types, and_type, no_exs, no_inss, GroupT, FormalT, ExportT, ParentT, constant, routine, DeclT, ClassT}
use Rattle.eif_system.specs.TreeForms.{inline, named, unmarked, bare_class, parent_clause, created_by, with_features, declared}

-- in the first file
abbrev pub at : ℕ → Place
at column = inline 0 column

abbrev pub name : Place → String → NameAt
name p s = named p (codes s)

-- ---- types

-- N
abbrev pub plain : Place → String → TypeT
plain p s = unmarked p (codes s)

-- attached N
abbrev pub sure : Place → Place → String → TypeT
sure p q s = type_at p q Attached (codes s) no_types

-- detachable N
abbrev pub maybe : Place → Place → String → TypeT
maybe p q s = type_at p q Detachable (codes s) no_types

-- N [T]
abbrev pub of : Place → String → TypeT → TypeT
of p s t = type_at p p Plain (codes s) (and_type t no_types)

-- detachable N [T]
abbrev pub maybe_of : Place → Place → String → TypeT → TypeT
maybe_of p q s t = type_at p q Detachable (codes s) (and_type t no_types)

-- ---- declarations

-- a, b: T
abbrev pub group : List NameAt → TypeT → GroupT
group names t = record { names = names; type_tree = t }

-- n (a, b: T; ..) do end
abbrev pub command : Place → String → List GroupT → DeclT
command p s groups = declared (name p s) groups None (routine [] no_inss)

-- n (a, b: T; ..): T do end
abbrev pub query : Place → String → List GroupT → TypeT → DeclT
query p s groups t = declared (name p s) groups (Some t) (routine [] no_inss)

-- a, b: T = ..
abbrev pub constant_of : List NameAt → TypeT → Literal → DeclT
constant_of names t x = record {
  names = names;
  arguments = [];
  result_type = Some t;
  kind = constant x;
  preconditions = no_exs;
  postconditions = no_exs;
}

-- ---- parent clauses

-- N
abbrev pub parent : Place → String → ParentT
parent p s = parent_clause (plain p s)

-- old as new
abbrev pub pair : Place → String → Place → String → RenamePair
pair p old q new = record { old_name = name p old; new_name = name q new }

abbrev pub renaming : List RenamePair → ParentT → ParentT
renaming pairs p = record p { renames = pairs }

-- {A, B} n, m
abbrev pub export : List NameAt → List NameAt → ExportT
export clients names = record { clients = record { stated = true; names = clients }; all = None; names = names }

-- {A, B} all
abbrev pub export_all : List NameAt → Place → ExportT
export_all clients p = record { clients = record { stated = true; names = clients }; all = Some p; names = [] }

abbrev pub exporting : List ExportT → ParentT → ParentT
exporting items p = record p { exports = items }

abbrev pub undefining : List NameAt → ParentT → ParentT
undefining names p = record p { undefines = names }

abbrev pub redefining : List NameAt → ParentT → ParentT
redefining names p = record p { redefines = names }

abbrev pub selecting : List NameAt → ParentT → ParentT
selecting names p = record p { selects = names }

-- ---- classes

abbrev pub class : Place → String → ClassT
class p s = bare_class p (codes s)

abbrev pub deferred_class : Place → String → ClassT
deferred_class p s = record (class p s) { is_deferred = true }

-- G
abbrev pub formal : Place → String → FormalT
formal p s = record { place = p; name = codes s; constraint = None }

-- G -> T
abbrev pub constrained : Place → String → TypeT → FormalT
constrained p s t = record { place = p; name = codes s; constraint = Some t }

abbrev pub generic : List FormalT → ClassT → ClassT
generic formals c = record c { formals = formals }

abbrev pub inherits : List ParentT → ClassT → ClassT
inherits parents c = record c { parents = parents }

abbrev pub creates : List NameAt → ClassT → ClassT
creates names c = record c { creators = created_by names }

abbrev pub declares : List DeclT → ClassT → ClassT
declares decls c = record c { features = with_features decls }
