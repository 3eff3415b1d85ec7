-- Types, expressions and instructions in a few words, for runs that are worked out. A run asks for no places.
use Prim.Native.String.{String}
use Rattle.std.specs.Prelude.{ℕ, pos, Bool, List, [], ◌∷◌, Some, None, codes}
use Rattle.eif_tree.specs.declared.tree.Literal.TheVariants as lit
use Rattle.eif_tree.specs.declared.tree.Mark.TheVariants.{Plain, Detachable}
use Rattle.eif_tree.specs.declared.tree.NameAt.{NameAt}
use Rattle.eif_tree.specs.declared.tree.Op.{Op}
use Rattle.eif_tree.specs.Tree.{TypeT, type_at, Ex, literal, void_value, current_value, result_value, unqualified, precursor, qualified, creation, test, unary, binary, no_exs, Ins, assign, call, create, choose, loop}
use Rattle.eif_tree.specs.View.{types_from, exs_from, inss_from, branches_from, otherwise_from}
use Rattle.eif_system.specs.TreeForms.{nowhere, named}

-- a name where it stands nowhere
abbrev pub name : String → NameAt
name n = named nowhere (codes n)

-- ---- types

-- T [U]
abbrev pub generic : String → List TypeT → TypeT
generic n ts = type_at nowhere nowhere Plain (codes n) (types_from ts)

-- detachable T [U]
abbrev pub maybe_generic : String → List TypeT → TypeT
maybe_generic n ts = type_at nowhere nowhere Detachable (codes n) (types_from ts)

-- T
abbrev pub plain : String → TypeT
plain n = generic n []

-- detachable T
abbrev pub maybe : String → TypeT
maybe n = maybe_generic n []

-- ---- expressions

-- 1
abbrev pub number : ℕ → Ex
number n = literal nowhere (lit.Int (pos n))

-- "a"
abbrev pub text : String → Ex
text s = literal nowhere (lit.Text (codes s))

-- 'a', by its code
abbrev pub letter : ℕ → Ex
letter b = literal nowhere (lit.Char b)

-- True, False
abbrev pub truth : Bool → Ex
truth b = literal nowhere (lit.Bool b)

-- Void
abbrev pub nobody : Ex
nobody = void_value nowhere

-- Current
abbrev pub me : Ex
me = current_value nowhere

-- Result
abbrev pub answer : Ex
answer = result_value nowhere

-- f (a)
abbrev pub apply : String → List Ex → Ex
apply n args = unqualified nowhere (codes n) (exs_from args)

-- x
abbrev pub the : String → Ex
the n = apply n []

-- e.f (a)
abbrev pub dot_with : Ex → String → List Ex → Ex
dot_with e n args = qualified nowhere e (name n) (exs_from args)

-- e.f
abbrev pub dot : Ex → String → Ex
dot e n = dot_with e n []

-- Precursor
abbrev pub parents_own : Ex
parents_own = precursor nowhere None no_exs

-- Precursor {P}
abbrev pub own_of : String → Ex
own_of n = precursor nowhere (Some (name n)) no_exs

-- create {T}.f (a)
abbrev pub new_by : TypeT → String → List Ex → Ex
new_by t f args = creation nowhere t (Some (name f)) (exs_from args)

-- create {T}
abbrev pub new : TypeT → Ex
new t = creation nowhere t None no_exs

-- attached e as y
abbrev pub is_there : String → Ex → Ex
is_there y e = test nowhere None (Some (name y)) e

-- attached {T} e as y
abbrev pub is_a : TypeT → String → Ex → Ex
is_a t y e = test nowhere (Some t) (Some (name y)) e

-- not e
abbrev pub one : Op → Ex → Ex
one o e = unary nowhere o e

-- l + r
abbrev pub two : Op → Ex → Ex → Ex
two o l r = binary nowhere o nowhere l r

-- ---- instructions

-- x := e
abbrev pub set : String → Ex → Ins
set x e = assign (name x) e

-- f (a), as an instruction
abbrev pub perform : Ex → Ins
perform e = call e

-- print (e)
abbrev pub show : Ex → Ins
show e = call (apply "print" (e ∷ []))

-- create x.f (a)
abbrev pub make_by : String → String → List Ex → Ins
make_by x f args = create nowhere None (name x) (Some (name f)) (exs_from args)

-- create x
abbrev pub make : String → Ins
make x = create nowhere None (name x) None no_exs

-- create {T} x
abbrev pub make_as : TypeT → String → Ins
make_as t x = create nowhere (Some t) (name x) None no_exs

-- if e then .. else .. end
abbrev pub when : Ex → List Ins → List Ins → Ins
when e is js = choose (branches_from ((e, inss_from is) ∷ [])) (otherwise_from (Some js))

-- from .. until e loop .. end
abbrev pub until : List Ins → Ex → List Ins → Ins
until start exit body = loop (inss_from start) no_exs exit (inss_from body) None
