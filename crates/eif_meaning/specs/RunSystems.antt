-- Classes in a few words, and the runs of systems whose root is app.make. Such a system need not pass the rules: some
-- of its classes have no creators part, and are created by a procedure all the same.
use Prim.Native.String.{String}
use Rattle.std.specs.Prelude.{ℕ, true, List, [], ◌∷◌, ◌++◌, Option, Some, None, codes}
use Rattle.eif_tree.specs.declared.tree.Literal.{Literal}
use Rattle.eif_tree.specs.Tree.{TypeT, Ins, GroupT, FormalT, ParentT, attribute, constant, deferred_body, routine, DeclT, ClassT}
use Rattle.eif_tree.specs.View.{inss_from}
use Rattle.eif_system.specs.TreeForms.{nowhere, bare_class, parent_clause, created_by, with_features, declared, argument}
use Rattle.eif_meaning.specs.System.{system_of}
use Rattle.eif_meaning.specs.Run.{Ran, run}
use Rattle.eif_meaning.specs.BodyTexts.{name, plain}

-- ---- features

-- x: T, as an argument or a local
abbrev pub has : String → TypeT → GroupT
has n t = argument (name n) t

-- n: T
abbrev pub field : String → TypeT → DeclT
field n t = declared (name n) [] (Some t) attribute

-- n: T = 1
abbrev pub fixed : String → TypeT → Literal → DeclT
fixed n t x = declared (name n) [] (Some t) (constant x)

-- n deferred end
abbrev pub later : String → DeclT
later n = declared (name n) [] None deferred_body

-- n (a: T) local l: T do .. end
abbrev pub does_with : String → List GroupT → List GroupT → List Ins → DeclT
does_with n arguments locals body = declared (name n) arguments None (routine locals (inss_from body))

-- n do .. end
abbrev pub does : String → List Ins → DeclT
does n body = does_with n [] [] body

-- n (a: T): T do .. end
abbrev pub gives_with : String → List GroupT → TypeT → List Ins → DeclT
gives_with n arguments t body = declared (name n) arguments (Some t) (routine [] (inss_from body))

-- n: T local l: T do .. end
abbrev pub gives_by : String → TypeT → List GroupT → List Ins → DeclT
gives_by n t locals body = declared (name n) [] (Some t) (routine locals (inss_from body))

-- n: T do .. end
abbrev pub gives : String → TypeT → List Ins → DeclT
gives n t body = gives_by n t [] body

-- ---- parent clauses

-- P
abbrev pub parent : String → ParentT
parent n = parent_clause (plain n)

-- P rename old as new end
abbrev pub renaming : String → String → ParentT → ParentT
renaming old new p = record p { renames = p.renames ++ record { old_name = name old; new_name = name new } ∷ [] }

-- P redefine n end
abbrev pub redefining : String → ParentT → ParentT
redefining n p = record p { redefines = p.redefines ++ name n ∷ [] }

-- P select n end
abbrev pub selecting : String → ParentT → ParentT
selecting n p = record p { selects = p.selects ++ name n ∷ [] }

-- ---- classes

-- class n feature .. end
abbrev pub class : String → List DeclT → ClassT
class n decls = record (bare_class nowhere (codes n)) { features = with_features decls }

-- inherit ..
abbrev pub heir : List ParentT → ClassT → ClassT
heir parents c = record c { parents = parents }

-- deferred
abbrev pub marked_deferred : ClassT → ClassT
marked_deferred c = record c { is_deferred = true }

-- G, G -> T
abbrev pub formal : String → Option TypeT → FormalT
formal n t = record { place = nowhere; name = codes n; constraint = t }

-- [G]
abbrev pub over : List FormalT → ClassT → ClassT
over formals c = record c { formals = formals }

-- class app create make feature .. end
abbrev pub app : List DeclT → ClassT
app decls = record (class "app" decls) { creators = created_by (name "make" ∷ []) }

-- make local l: T do .. end
abbrev pub making : List GroupT → List Ins → DeclT
making locals body = does_with "make" [] locals body

-- ---- runs

-- with at most n levels of calls and n turns of each loop
abbrev pub run_of : ℕ → List ClassT → Ran
run_of n given = run n (system_of given) (codes "app") (codes "make")

-- of one class
abbrev pub run_alone : ℕ → List DeclT → Ran
run_alone n decls = run_of n (app decls ∷ [])

-- of a class that declares `make` alone
abbrev pub run_making : ℕ → List GroupT → List Ins → Ran
run_making n locals body = run_alone n (making locals body ∷ [])

-- without locals
abbrev pub run_body : ℕ → List Ins → Ran
run_body n body = run_making n [] body
