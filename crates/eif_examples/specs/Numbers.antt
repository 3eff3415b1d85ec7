-- A class tree as a list of numbers: one for its form, and then its parts in the order of their declaration. A text
-- begins with its length; each element of another list is marked by a 1, and the list's end by a 0. The first argument
-- says which places are read.
use Rattle.std.specs.Prelude.{ℕ, ◌==◌, Bool, true, false, not, cond, ℤ, pos, negsuc, List, [], ◌∷◌, ◌++◌, length, Option, Some, None}
use Rattle.eif_base.specs.declared.Place.{Place}
use Rattle.eif_base.specs.declared.place.TheConstants.{NO_FILE}
use Rattle.eif_tree.specs.declared.tree.Mark.{Mark}
use Rattle.eif_tree.specs.declared.tree.Mark.TheVariants.{Plain, Attached, Detachable}
use Rattle.eif_tree.specs.declared.tree.Op.{Op}
use Rattle.eif_tree.specs.declared.tree.Op.TheVariants as op
use Rattle.eif_tree.specs.declared.tree.Literal.{Literal}
use Rattle.eif_tree.specs.declared.tree.Literal.TheVariants as value
use Rattle.eif_tree.specs.declared.tree.NameAt.{NameAt}
use Rattle.eif_tree.specs.declared.tree.RenamePair.{RenamePair}
use Rattle.eif_tree.specs.Tree.{TypeT, Types, type_at, no_types, and_type, Ex, Exs, literal, void_value, current_value, result_value, unqualified, precursor, qualified, creation, test, paren, unary, binary, no_exs, and_ex, Ins, Inss, Branches, Otherwise, assign, call, create, choose, loop, check, no_inss, and_ins, no_branches, and_branch, no_else, else_part, GroupT, FormalT, ClientsT, ExportT, ParentT, CreatorsT, KindT, attribute, constant, deferred_body, routine, DeclT, FeaturesT, ClassT}

-- ---- parts of trees

abbrev pub flag_number : Bool → ℕ
flag_number false = 0
flag_number true = 1

abbrev pub reads_all : Place → Bool
reads_all place = true

-- the places of what stands in a file
abbrev pub reads_given : Place → Bool
reads_given place = not (place.file == NO_FILE)

abbrev pub place_numbers : (Place → Bool) → Place → List ℕ
place_numbers reads place =
    cond (reads place) (place.file ∷ place.offset ∷ place.line ∷ place.column ∷ []) []

abbrev pub text_numbers : List ℕ → List ℕ
text_numbers text = length text ∷ text

abbrev pub list_numbers : {A : Type 0} → (A → List ℕ) → List A → List ℕ
list_numbers f [] = 0 ∷ []
list_numbers f (x ∷ xs) = 1 ∷ f x ++ list_numbers f xs

abbrev pub option_numbers : {A : Type 0} → (A → List ℕ) → Option A → List ℕ
option_numbers f None = 0 ∷ []
option_numbers f (Some x) = 1 ∷ f x

abbrev pub mark_number : Mark → ℕ
mark_number Plain = 0
mark_number Attached = 1
mark_number Detachable = 2

abbrev pub op_number : Op → ℕ
op_number op.Plus = 0
op_number op.Minus = 1
op_number op.Times = 2
op_number op.Divide = 3
op_number op.Modulo = 4
op_number op.Power = 5
op_number op.Equal = 6
op_number op.NotEqual = 7
op_number op.Less = 8
op_number op.Greater = 9
op_number op.LessEqual = 10
op_number op.GreaterEqual = 11
op_number op.Not = 12
op_number op.And = 13
op_number op.AndThen = 14
op_number op.Or = 15
op_number op.OrElse = 16
op_number op.Xor = 17
op_number op.Implies = 18

-- -1 is 0 below zero
abbrev pub integer_numbers : ℤ → List ℕ
integer_numbers (pos n) = 0 ∷ n ∷ []
integer_numbers (negsuc n) = 1 ∷ n ∷ []

abbrev pub literal_numbers : Literal → List ℕ
literal_numbers (value.Int n) = 0 ∷ integer_numbers n
literal_numbers (value.Char c) = 1 ∷ c ∷ []
literal_numbers (value.Text text) = 2 ∷ text_numbers text
literal_numbers (value.Bool b) = 3 ∷ flag_number b ∷ []

abbrev pub name_numbers : (Place → Bool) → NameAt → List ℕ
name_numbers reads n = place_numbers reads n.place ++ text_numbers n.name

abbrev pub names_numbers : (Place → Bool) → List NameAt → List ℕ
names_numbers reads names = list_numbers (name_numbers reads) names

abbrev pub rename_numbers : (Place → Bool) → RenamePair → List ℕ
rename_numbers reads pair = name_numbers reads pair.old_name ++ name_numbers reads pair.new_name

-- ---- types

abbrev mutual
  pub type_numbers : (Place → Bool) → TypeT → List ℕ
  type_numbers reads (type_at place name_place mark name actuals) =
      place_numbers reads place
      ++ place_numbers reads name_place ++ mark_number mark ∷ text_numbers name ++ types_numbers reads actuals

  pub types_numbers : (Place → Bool) → Types → List ℕ
  types_numbers reads no_types = 0 ∷ []
  types_numbers reads (and_type t ts) = 1 ∷ type_numbers reads t ++ types_numbers reads ts

-- ---- expressions

abbrev mutual
  pub ex_numbers : (Place → Bool) → Ex → List ℕ
  ex_numbers reads (literal place x) = 0 ∷ place_numbers reads place ++ literal_numbers x
  ex_numbers reads (void_value place) = 1 ∷ place_numbers reads place
  ex_numbers reads (current_value place) = 2 ∷ place_numbers reads place
  ex_numbers reads (result_value place) = 3 ∷ place_numbers reads place
  ex_numbers reads (unqualified place name args) =
      4 ∷ place_numbers reads place ++ text_numbers name ++ exs_numbers reads args
  ex_numbers reads (precursor place parent args) =
      5 ∷ place_numbers reads place ++ option_numbers (name_numbers reads) parent ++ exs_numbers reads args
  ex_numbers reads (qualified place target name args) =
      6 ∷ place_numbers reads place ++ ex_numbers reads target ++ name_numbers reads name ++ exs_numbers reads args
  ex_numbers reads (creation place t creator args) =
      7 ∷ place_numbers reads place
      ++ type_numbers reads t ++ option_numbers (name_numbers reads) creator ++ exs_numbers reads args
  ex_numbers reads (test place t local e) =
      8 ∷ place_numbers reads place
      ++ option_numbers (type_numbers reads) t ++ option_numbers (name_numbers reads) local ++ ex_numbers reads e
  ex_numbers reads (paren place e) = 9 ∷ place_numbers reads place ++ ex_numbers reads e
  ex_numbers reads (unary place o e) = 10 ∷ place_numbers reads place ++ op_number o ∷ ex_numbers reads e
  ex_numbers reads (binary place o op_place left right) =
      11 ∷ place_numbers reads place
      ++ op_number o ∷ place_numbers reads op_place ++ ex_numbers reads left ++ ex_numbers reads right

  pub exs_numbers : (Place → Bool) → Exs → List ℕ
  exs_numbers reads no_exs = 0 ∷ []
  exs_numbers reads (and_ex e es) = 1 ∷ ex_numbers reads e ++ exs_numbers reads es

-- ---- instructions

abbrev mutual
  pub ins_numbers : (Place → Bool) → Ins → List ℕ
  ins_numbers reads (assign target e) = 0 ∷ name_numbers reads target ++ ex_numbers reads e
  ins_numbers reads (call e) = 1 ∷ ex_numbers reads e
  ins_numbers reads (create place t target creator args) =
      2 ∷ place_numbers reads place
      ++ option_numbers (type_numbers reads) t
      ++ name_numbers reads target ++ option_numbers (name_numbers reads) creator ++ exs_numbers reads args
  ins_numbers reads (choose branches otherwise) = 3 ∷ branches_numbers reads branches ++ otherwise_numbers reads otherwise
  ins_numbers reads (loop start claims exit body variant) =
      4 ∷ inss_numbers reads start
      ++ exs_numbers reads claims
      ++ ex_numbers reads exit ++ inss_numbers reads body ++ option_numbers (ex_numbers reads) variant
  ins_numbers reads (check claims) = 5 ∷ exs_numbers reads claims

  pub inss_numbers : (Place → Bool) → Inss → List ℕ
  inss_numbers reads no_inss = 0 ∷ []
  inss_numbers reads (and_ins i is) = 1 ∷ ins_numbers reads i ++ inss_numbers reads is

  pub branches_numbers : (Place → Bool) → Branches → List ℕ
  branches_numbers reads no_branches = 0 ∷ []
  branches_numbers reads (and_branch e is bs) = 1 ∷ ex_numbers reads e ++ inss_numbers reads is ++ branches_numbers reads bs

  pub otherwise_numbers : (Place → Bool) → Otherwise → List ℕ
  otherwise_numbers reads no_else = 0 ∷ []
  otherwise_numbers reads (else_part is) = 1 ∷ inss_numbers reads is

-- ---- classes

abbrev pub group_numbers : (Place → Bool) → GroupT → List ℕ
group_numbers reads g = names_numbers reads g.names ++ type_numbers reads g.type_tree

abbrev pub formal_numbers : (Place → Bool) → FormalT → List ℕ
formal_numbers reads f = place_numbers reads f.place ++ text_numbers f.name ++ option_numbers (type_numbers reads) f.constraint

abbrev pub clients_numbers : (Place → Bool) → ClientsT → List ℕ
clients_numbers reads c = flag_number c.stated ∷ names_numbers reads c.names

abbrev pub export_numbers : (Place → Bool) → ExportT → List ℕ
export_numbers reads e = clients_numbers reads e.clients ++ option_numbers (place_numbers reads) e.all ++ names_numbers reads e.names

abbrev pub parent_numbers : (Place → Bool) → ParentT → List ℕ
parent_numbers reads c =
    type_numbers reads c.parent
    ++ list_numbers (rename_numbers reads) c.renames
    ++ list_numbers (export_numbers reads) c.exports
    ++ names_numbers reads c.undefines ++ names_numbers reads c.redefines ++ names_numbers reads c.selects

abbrev pub creators_numbers : (Place → Bool) → CreatorsT → List ℕ
creators_numbers reads c = clients_numbers reads c.clients ++ names_numbers reads c.names

abbrev pub kind_numbers : (Place → Bool) → KindT → List ℕ
kind_numbers reads attribute = 0 ∷ []
kind_numbers reads (constant x) = 1 ∷ literal_numbers x
kind_numbers reads deferred_body = 2 ∷ []
kind_numbers reads (routine locals body) = 3 ∷ list_numbers (group_numbers reads) locals ++ inss_numbers reads body

abbrev pub decl_numbers : (Place → Bool) → DeclT → List ℕ
decl_numbers reads d =
    names_numbers reads d.names
    ++ list_numbers (group_numbers reads) d.arguments
    ++ option_numbers (type_numbers reads) d.result_type
    ++ kind_numbers reads d.kind ++ exs_numbers reads d.preconditions ++ exs_numbers reads d.postconditions

abbrev pub features_numbers : (Place → Bool) → FeaturesT → List ℕ
features_numbers reads f = clients_numbers reads f.clients ++ list_numbers (decl_numbers reads) f.decls

abbrev pub class_numbers : (Place → Bool) → ClassT → List ℕ
class_numbers reads c =
    place_numbers reads c.place
    ++ text_numbers c.name
    ++ flag_number c.is_deferred
    ∷ list_numbers (formal_numbers reads) c.formals
    ++ list_numbers (parent_numbers reads) c.parents
    ++ list_numbers (creators_numbers reads) c.creators
    ++ list_numbers (features_numbers reads) c.features ++ exs_numbers reads c.invariants
