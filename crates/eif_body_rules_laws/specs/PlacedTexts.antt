-- Class texts in a few words, with their places.
use Prim.Native.String.{String}
use Rattle.std.specs.Prelude.{ℕ, pos, Bool, true, List, [], ◌∷◌, Option, Some, None, codes}
use Rattle.eif_base.specs.declared.code.Code.{Code}
use Rattle.eif_base.specs.declared.fault.Fault.{Fault}
use Rattle.eif_base.specs.declared.place.Place.{Place}
use Rattle.eif_tree.specs.declared.tree.Literal.TheVariants as is
use Rattle.eif_tree.specs.declared.tree.Mark.{Mark}
use Rattle.eif_tree.specs.declared.tree.Mark.TheVariants.{Plain, Attached, Detachable}
use Rattle.eif_tree.specs.declared.tree.NameAt.{NameAt}
use Rattle.eif_tree.specs.declared.tree.Op.{Op}
use Rattle.eif_tree.specs.declared.tree.RenamePair.{RenamePair}
use Rattle.eif_tree.specs.ExpressionPlaces.{place_of}
use Rattle.eif_tree.specs.Tree.{TypeT, type_at, Ex, literal, unqualified, precursor, qualified, creation, binary, no_exs, Ins, create, choose, loop, check, Otherwise, no_else, else_part, GroupT, FormalT, ClientsT, CreatorsT, constant, deferred_body, routine, DeclT, FeaturesT, ClassT, Inss}
use Rattle.eif_tree.specs.View.{types_from, exs_from, inss_from, branches_from}
use Rattle.eif_system.specs.TreeForms.{inline, named, declared, procedure, bare_class, with_features}
use Rattle.eif_body_rules.specs.BodyRules.{body_faults}

-- in a text that is one line: in the first file, in the second, in the third
abbrev pub at : ℕ → Place
at column = inline 0 column

abbrev pub there : ℕ → Place
there column = inline 1 column

abbrev pub third : ℕ → Place
third column = inline 2 column

abbrev pub name : Place → String → NameAt
name p s = named p (codes s)

-- ---- types

-- T [U, ..]
abbrev pub written : Place → Place → Mark → String → List TypeT → TypeT
written p q m s ts = type_at p q m (codes s) (types_from ts)

abbrev pub plain : Place → String → TypeT
plain p s = written p p Plain s []

-- attached T
abbrev pub sure : Place → Place → String → TypeT
sure p q s = written p q Attached s []

-- detachable T
abbrev pub maybe : Place → Place → String → TypeT
maybe p q s = written p q Detachable s []

-- ---- expressions

abbrev pub int : Place → ℕ → Ex
int p n = literal p (is.Int (pos n))

abbrev pub character : Place → ℕ → Ex
character p n = literal p (is.Char n)

abbrev pub text : Place → String → Ex
text p s = literal p (is.Text (codes s))

abbrev pub truth : Place → Bool → Ex
truth p b = literal p (is.Bool b)

-- x
abbrev pub value : Place → String → Ex
value p s = unqualified p (codes s) no_exs

-- x (e, ..)
abbrev pub apply : Place → String → List Ex → Ex
apply p s es = unqualified p (codes s) (exs_from es)

-- e.x (e, ..)
abbrev pub dot : Ex → Place → String → List Ex → Ex
dot e q s es = qualified (place_of e) e (name q s) (exs_from es)

-- Precursor {P} (e, ..)
abbrev pub parent_version : Place → Option NameAt → List Ex → Ex
parent_version p y es = precursor p y (exs_from es)

-- create {T}.x (e, ..)
abbrev pub new : Place → TypeT → Option NameAt → List Ex → Ex
new p t y es = creation p t y (exs_from es)

-- e op e
abbrev pub operation : Ex → Place → Op → Ex → Ex
operation l q o r = binary (place_of l) o q l r

-- ---- instructions

-- create {T} x.y (e, ..)
abbrev pub make : Place → Option TypeT → NameAt → Option NameAt → List Ex → Ins
make p t x y es = create p t x y (exs_from es)

abbrev pub branch : Ex → List Ins → Ex × Inss
branch e is = (e, inss_from is)

abbrev else_of : Option (List Ins) → Otherwise
else_of None = no_else
else_of (Some is) = else_part (inss_from is)

-- if e then .. elseif e then .. else .. end
abbrev pub if_true : List (Ex × Inss) → Option (List Ins) → Ins
if_true bs o = choose (branches_from bs) (else_of o)

-- from .. invariant .. until e loop .. variant e end
abbrev pub repeat : List Ins → List Ex → Ex → List Ins → Option Ex → Ins
repeat start claims exit body variant = loop (inss_from start) (exs_from claims) exit (inss_from body) variant

abbrev pub check_all : List Ex → Ins
check_all es = check (exs_from es)

-- ---- declarations

-- x, y: T
abbrev pub group : List NameAt → TypeT → GroupT
group ns t = record { names = ns; type_tree = t }

-- x (..): T local .. do .. end
abbrev pub routine_of : NameAt → List GroupT → Option TypeT → List GroupT → List Ins → DeclT
routine_of n arguments result locals body = declared n arguments result (routine locals (inss_from body))

-- x (..): T deferred end
abbrev pub deferred_of : NameAt → List GroupT → Option TypeT → DeclT
deferred_of n arguments result = declared n arguments result deferred_body

abbrev pub requires : List Ex → DeclT → DeclT
requires es x = record x { preconditions = exs_from es }

abbrev pub ensures : List Ex → DeclT → DeclT
ensures es x = record x { postconditions = exs_from es }

-- x: T = 1
abbrev pub integer_constant : NameAt → Option TypeT → ℕ → DeclT
integer_constant n t x = declared n [] t (constant (is.Int (pos x)))

-- x: T = "a"
abbrev pub text_constant : NameAt → Option TypeT → String → DeclT
text_constant n t s = declared n [] t (constant (is.Text (codes s)))

-- ---- classes

-- class C feature .. end
abbrev pub declares : Place → String → List DeclT → ClassT
declares p s xs = record (bare_class p (codes s)) { features = with_features xs }

abbrev pub formal : Place → String → Option TypeT → FormalT
formal p s t = record { place = p; name = codes s; constraint = t }

abbrev pub clients : List NameAt → ClientsT
clients ns = record { stated = true; names = ns }

abbrev pub creators : ClientsT → List NameAt → CreatorsT
creators cs ns = record { clients = cs; names = ns }

abbrev pub features : ClientsT → List DeclT → FeaturesT
features cs xs = record { clients = cs; decls = xs }

-- x as y
abbrev pub renaming : NameAt → NameAt → RenamePair
renaming x y = record { old_name = x; new_name = y }

-- class B feature f do .. end end
abbrev pub f_does : List Ins → ClassT
f_does body = declares (at 7) "b" (procedure (name (at 17) "f") (inss_from body) ∷ [])

-- ---- faults

-- in a feature of a class
abbrev pub breach : String → String → Code → ℕ → Place → String → Fault
breach class feature code case p about =
    record { code = code; case = case; class = codes class; feature = codes feature; place = p; about = codes about }

-- of a class that is given alone
abbrev pub alone : ClassT → List Fault
alone c = body_faults (c ∷ [])
