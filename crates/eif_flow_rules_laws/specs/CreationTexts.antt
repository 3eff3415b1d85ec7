-- Class texts in a few words. A node of which a fault is told has its place, as has what begins with it; a class's name
-- and its creators have theirs where they are asked for. All else stands nowhere.
use Prim.Native.String.{String}
use Rattle.std.specs.Prelude.{ℕ, ◌+◌, Bool, List, [], ◌∷◌, ◌++◌, Some, None, codes, slice_get}
use Rattle.std.specs.Option.{option_map_or}
use Rattle.eif_base.specs.declared.code.Code.TheVariants as code
use Rattle.eif_base.specs.declared.fault.Fault.{Fault}
use Rattle.eif_base.specs.declared.place.Place.{Place}
use Rattle.eif_tree.specs.declared.tree.Literal.TheVariants as lit
use Rattle.eif_tree.specs.declared.tree.NameAt.{NameAt}
use Rattle.eif_tree.specs.declared.tree.Op.{Op}
use Rattle.eif_tree.specs.ExpressionPlaces.{place_of}
use Rattle.eif_tree.specs.Tree.{TypeT, Ex, literal, current_value, unqualified, precursor, qualified, test, unary, binary, no_exs, Ins, assign, call, create, choose, loop, routine, DeclT, ParentT, ClassT}
use Rattle.eif_tree.specs.View.{exs_from, inss_from, branches_from, otherwise_from}
use Rattle.eif_system.specs.Kernel.{kernel_count}
use Rattle.eif_system.specs.TreeForms.{nowhere, inline, named, unmarked, detachable, bare_class, parent_clause, created_by, with_features, declared, attribute_of, argument}
use Rattle.eif_system.specs.Universe.{universe}
use Rattle.eif_rules.specs.FaultForms.{fault_in}
use Rattle.eif_flow_rules.specs.CreationFaults.{creation_faults}

-- in the first file, whose text is one line
abbrev pub at : ℕ → Place
at column = inline 0 column

abbrev pub name : String → NameAt
name s = named nowhere (codes s)

-- T
abbrev pub plain : String → TypeT
plain s = unmarked nowhere (codes s)

-- detachable T
abbrev pub maybe : String → TypeT
maybe s = detachable nowhere nowhere (codes s)

-- ---- expressions

-- "a"
abbrev pub text : Ex
text = literal nowhere (lit.Text (codes "a"))

-- True, False
abbrev pub truth : Bool → Ex
truth b = literal nowhere (lit.Bool b)

-- Current
abbrev pub me : Place → Ex
me p = current_value p

-- x
abbrev pub the : Place → String → Ex
the p s = unqualified p (codes s) no_exs

-- x, of which no fault is told
abbrev pub any : String → Ex
any s = the nowhere s

-- e.f (a)
abbrev pub dot : Ex → String → List Ex → Ex
dot e s args = qualified (place_of e) e (name s) (exs_from args)

-- attached e as y
abbrev pub is_there : String → Ex → Ex
is_there s e = test nowhere None (Some (name s)) e

-- not e
abbrev pub one : Op → Ex → Ex
one o e = unary nowhere o e

-- l and r
abbrev pub two : Op → Ex → Ex → Ex
two o l r = binary (place_of l) o nowhere l r

-- ---- instructions

-- x := e
abbrev pub set : String → Ex → Ins
set s e = assign (name s) e

-- x := "a"
abbrev pub fill : String → Ins
fill s = set s text

-- f
abbrev pub perform : Ex → Ins
perform e = call e

-- Precursor
abbrev pub perform_precursor : Place → Ins
perform_precursor p = call (precursor p None no_exs)

-- Precursor {P}
abbrev pub perform_version : String → Ins
perform_version s = call (precursor nowhere (Some (name s)) no_exs)

-- f (e)
abbrev pub perform_with : String → Ex → Ins
perform_with s e = call (unqualified nowhere (codes s) (exs_from (e ∷ [])))

-- print (e)
abbrev pub show : Ex → Ins
show e = perform_with "print" e

-- create x.f
abbrev pub make_by : String → String → Ins
make_by s f = create nowhere None (name s) (Some (name f)) no_exs

-- create x
abbrev pub make : String → Ins
make s = create nowhere None (name s) None no_exs

-- if e then .. end
abbrev pub when : Ex → List Ins → Ins
when e is = choose (branches_from ((e, inss_from is) ∷ [])) (otherwise_from None)

-- if e then .. else .. end
abbrev pub when_else : Ex → List Ins → List Ins → Ins
when_else e is js = choose (branches_from ((e, inss_from is) ∷ [])) (otherwise_from (Some js))

-- if e then .. elseif f then .. else .. end
abbrev pub when_elseif : Ex → List Ins → Ex → List Ins → List Ins → Ins
when_elseif e is f js ks =
    choose (branches_from ((e, inss_from is) ∷ (f, inss_from js) ∷ [])) (otherwise_from (Some ks))

-- from .. until e loop .. end
abbrev pub until : List Ins → Ex → List Ins → Ins
until start exit body = loop (inss_from start) no_exs exit (inss_from body) None

-- ---- declarations

-- n: STRING
abbrev pub field : String → DeclT
field s = attribute_of (name s) (plain "string")

-- n do .. end
abbrev pub routine_of : String → List Ins → DeclT
routine_of s is = declared (name s) [] None (routine [] (inss_from is))

-- n local x: T do .. end
abbrev pub with_local : String → String → TypeT → List Ins → DeclT
with_local s x t is = declared (name s) [] None (routine (argument (name x) t ∷ []) (inss_from is))

-- n (x: T) do .. end
abbrev pub with_argument : String → String → TypeT → List Ins → DeclT
with_argument s x t is = declared (name s) (argument (name x) t ∷ []) None (routine [] (inss_from is))

-- n: T do .. end
abbrev pub function_of : String → String → List Ins → DeclT
function_of s t is = declared (name s) [] (Some (plain t)) (routine [] (inss_from is))

-- ---- classes

-- class N feature .. end
abbrev pub class : Place → String → List DeclT → ClassT
class p s ds = record (bare_class p (codes s)) { features = with_features ds }

-- with the creator `make`
abbrev pub creating : Place → ClassT → ClassT
creating p c = record c { creators = created_by (named p (codes "make") ∷ []) }

abbrev pub inherits : List ParentT → ClassT → ClassT
inherits ps c = record c { parents = ps }

abbrev pub parent : String → ParentT
parent s = parent_clause (plain s)

abbrev pub redefining : String → ParentT → ParentT
redefining s p = record p { redefines = p.redefines ++ name s ∷ [] }

abbrev pub renaming : String → String → ParentT → ParentT
renaming old new p = record p { renames = p.renames ++ record { old_name = name old; new_name = name new } ∷ [] }

abbrev pub selecting : String → ParentT → ParentT
selecting s p = record p { selects = p.selects ++ name s ∷ [] }

-- class APP create make feature .. end
abbrev pub app : List DeclT → ClassT
app ds = creating (at 18) (class (at 7) "app" ds)

-- ---- faults

-- the faults of the class with that place among the given ones
abbrev pub faults_of : List ClassT → ℕ → List Fault
faults_of given i = option_map_or (creation_faults (universe given) (kernel_count + i)) (slice_get given i) []

-- of a class that is given alone
abbrev pub faults_alone : ClassT → List Fault
faults_alone c = faults_of (c ∷ []) 0

-- VEVI.3 in the creator `make` of the class, at a node and about a field
abbrev pub needs : ClassT → Place → String → Fault
needs c p s = fault_in c (codes "make") code.Vevi 3 p (codes s)

-- VEVI.4 of the creator `make` of the class, at its name and about a field
abbrev pub leaves : ClassT → Place → String → Fault
leaves c p s = fault_in c (codes "make") code.Vevi 4 p (codes s)
