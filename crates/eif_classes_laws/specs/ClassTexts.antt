-- Class texts in a few words. Their places are nowhere: what a system is asks for none.
use Prim.Native.String.{String}
use Rattle.std.specs.Prelude.{ℕ, pos, true, List, [], ◌∷◌, ◌++◌, map, Some, None, codes}
use Rattle.eif_tree.specs.declared.tree.Literal.TheVariants.{Int}
use Rattle.eif_tree.specs.declared.tree.Mark.{Mark}
use Rattle.eif_tree.specs.declared.tree.Mark.TheVariants.{Plain, Attached, Detachable}
use Rattle.eif_tree.specs.declared.tree.NameAt.{NameAt}
use Rattle.eif_tree.specs.Tree.{TypeT, type_at, no_inss, GroupT, FormalT, ClientsT, ExportT, ParentT, constant, deferred_body, routine, DeclT, ClassT}
use Rattle.eif_tree.specs.View.{types_from}
use Rattle.eif_system.specs.Lineage.{Line, line_of}
use Rattle.eif_system.specs.TreeForms.{nowhere, named, bare_class, parent_clause, created_by, with_features, declared, procedure, attribute_of}
use Rattle.eif_system.specs.Universe.{universe}

abbrev pub texts : List String → List (List ℕ)
texts ss = map codes ss

abbrev pub name : String → NameAt
name s = named nowhere (codes s)

abbrev pub names_at : List String → List NameAt
names_at ss = map name ss

-- ---- types

abbrev pub written : Mark → String → List TypeT → TypeT
written m s ts = type_at nowhere nowhere m (codes s) (types_from ts)

-- N
abbrev pub plain : String → TypeT
plain s = written Plain s []

-- attached N
abbrev pub sure : String → TypeT
sure s = written Attached s []

-- detachable N
abbrev pub maybe : String → TypeT
maybe s = written Detachable s []

-- N [T]
abbrev pub of : String → TypeT → TypeT
of s t = written Plain s (t ∷ [])

-- ---- declarations

-- n do end
abbrev pub routine_of : String → DeclT
routine_of s = procedure (name s) no_inss

-- n deferred end
abbrev pub deferred_of : String → DeclT
deferred_of s = declared (name s) [] None deferred_body

-- n: T
abbrev pub field : String → TypeT → DeclT
field s t = attribute_of (name s) t

-- n: INTEGER = 1
abbrev pub constant_of : String → DeclT
constant_of s = declared (name s) [] (Some (plain "integer")) (constant (Int (pos 1)))

-- a, b: T
abbrev pub group : List String → TypeT → GroupT
group ss t = record { names = names_at ss; type_tree = t }

-- n (a, b: T; ..) do end
abbrev pub command : String → List GroupT → DeclT
command s groups = declared (name s) groups None (routine [] no_inss)

-- n (a, b: T; ..): T do end
abbrev pub query : String → List GroupT → TypeT → DeclT
query s groups t = declared (name s) groups (Some t) (routine [] no_inss)

-- n: T deferred end
abbrev pub deferred_query : String → TypeT → DeclT
deferred_query s t = declared (name s) [] (Some t) deferred_body

-- ---- parent clauses

-- N
abbrev pub parent : String → ParentT
parent s = parent_clause (plain s)

abbrev pub renaming : String → String → ParentT → ParentT
renaming old new p =
    record p { renames = p.renames ++ record { old_name = name old; new_name = name new } ∷ [] }

abbrev pub undefining : List String → ParentT → ParentT
undefining ss p = record p { undefines = names_at ss }

abbrev pub redefining : List String → ParentT → ParentT
redefining ss p = record p { redefines = names_at ss }

abbrev pub selecting : List String → ParentT → ParentT
selecting ss p = record p { selects = names_at ss }

-- {A, B}
abbrev pub clients_of : List String → ClientsT
clients_of ss = record { stated = true; names = names_at ss }

-- {A, B} n, m
abbrev pub export : List String → List String → ExportT
export clients ss = record { clients = clients_of clients; all = None; names = names_at ss }

-- {A, B} all
abbrev pub export_all : List String → ExportT
export_all clients = record { clients = clients_of clients; all = Some nowhere; names = [] }

abbrev pub exporting : List ExportT → ParentT → ParentT
exporting items p = record p { exports = items }

-- ---- classes

abbrev pub class : String → ClassT
class s = bare_class nowhere (codes s)

-- G
abbrev pub formal : String → FormalT
formal s = record { place = nowhere; name = codes s; constraint = None }

-- G -> T
abbrev pub constrained : String → TypeT → FormalT
constrained s t = record { place = nowhere; name = codes s; constraint = Some t }

abbrev pub generic : List FormalT → ClassT → ClassT
generic fs c = record c { formals = fs }

abbrev pub inherits : List ParentT → ClassT → ClassT
inherits ps c = record c { parents = ps }

abbrev pub creates : List String → ClassT → ClassT
creates ss c = record c { creators = created_by (names_at ss) }

abbrev pub declares : List DeclT → ClassT → ClassT
declares ds c = record c { features = with_features ds }

-- one more part: feature ..
abbrev pub declares_too : List DeclT → ClassT → ClassT
declares_too ds c = record c { features = c.features ++ with_features ds }

-- one more part: feature {A, B} ..
abbrev pub declares_for : List String → List DeclT → ClassT → ClassT
declares_for clients ds c =
    record c { features = c.features ++ record { clients = clients_of clients; decls = ds } ∷ [] }

-- the class with that number, where the first class given has the number 6
abbrev pub class_at : List ClassT → ℕ → Line
class_at given d = line_of (universe given) d
