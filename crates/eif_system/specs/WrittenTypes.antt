-- The types that a class text writes.
use Rattle.std.specs.Prelude.{ℕ, List, [], ◌∷◌, ◌++◌, map, flat_map, Option, Some, None, codes}
use Rattle.eif_base.specs.declared.place.Place.{Place}
use Rattle.eif_tree.specs.declared.tree.Mark.{Mark}
use Rattle.eif_tree.specs.declared.tree.NameAt.{NameAt}
use Rattle.eif_tree.specs.Members.{declarations}
use Rattle.eif_tree.specs.Tree.{TypeT, type_at, Types, no_types, and_type, Ex, literal, void_value, current_value, result_value, unqualified, precursor, qualified, creation, test, paren, unary, binary, Exs, no_exs, and_ex, Ins, assign, call, create, choose, loop, check, Inss, no_inss, and_ins, Branches, no_branches, and_branch, Otherwise, no_else, else_part, GroupT, KindT, routine, DeclT, ClassT}

-- ---- a type by its parts

abbrev pub type_name : TypeT → List ℕ
type_name (type_at p q m n ts) = n

abbrev pub type_mark : TypeT → Mark
type_mark (type_at p q m n ts) = m

-- where it begins: its mark, or its name where it has none
abbrev pub type_place : TypeT → Place
type_place (type_at p q m n ts) = p

abbrev pub type_name_place : TypeT → Place
type_name_place (type_at p q m n ts) = q

abbrev pub type_list : Types → List TypeT
type_list no_types = []
type_list (and_type t ts) = t ∷ type_list ts

abbrev pub actuals : TypeT → List TypeT
actuals (type_at p q m n ts) = type_list ts

abbrev mutual
  -- the type and all types in it; each has one name
  pub nested : TypeT → List TypeT
  nested (type_at p q m n ts) = type_at p q m n ts ∷ nested_in ts

  pub nested_in : Types → List TypeT
  nested_in no_types = []
  nested_in (and_type t ts) = nested t ++ nested_in ts

abbrev pub present : {A : Type 0} → Option A → List A
present None = []
present (Some x) = x ∷ []

-- ---- the outermost types of expressions and instructions, in the order of the text

abbrev mutual
  pub types_of_expression : Ex → List TypeT
  types_of_expression (literal p x) = []
  types_of_expression (void_value p) = []
  types_of_expression (current_value p) = []
  types_of_expression (result_value p) = []
  types_of_expression (unqualified p n args) = types_of_expressions args
  types_of_expression (precursor p n args) = types_of_expressions args
  types_of_expression (qualified p e n args) = types_of_expression e ++ types_of_expressions args
  types_of_expression (creation p ty n args) = ty ∷ types_of_expressions args
  types_of_expression (test p ty l e) = present ty ++ types_of_expression e
  types_of_expression (paren p e) = types_of_expression e
  types_of_expression (unary p o e) = types_of_expression e
  types_of_expression (binary p o q l r) = types_of_expression l ++ types_of_expression r

  pub types_of_expressions : Exs → List TypeT
  types_of_expressions no_exs = []
  types_of_expressions (and_ex e es) = types_of_expression e ++ types_of_expressions es

abbrev pub types_of_variant : Option Ex → List TypeT
types_of_variant None = []
types_of_variant (Some e) = types_of_expression e

abbrev mutual
  pub types_of_instruction : Ins → List TypeT
  types_of_instruction (assign n e) = types_of_expression e
  types_of_instruction (call e) = types_of_expression e
  types_of_instruction (create p ty n m args) = present ty ++ types_of_expressions args
  types_of_instruction (choose bs o) = types_of_branches bs ++ types_of_otherwise o
  types_of_instruction (loop start claims exit body variant) =
      types_of_compound start ++ types_of_expressions claims ++ types_of_expression exit ++ types_of_compound body
      ++ types_of_variant variant
  types_of_instruction (check claims) = types_of_expressions claims

  pub types_of_compound : Inss → List TypeT
  types_of_compound no_inss = []
  types_of_compound (and_ins i is) = types_of_instruction i ++ types_of_compound is

  pub types_of_branches : Branches → List TypeT
  types_of_branches no_branches = []
  types_of_branches (and_branch e is bs) = types_of_expression e ++ types_of_compound is ++ types_of_branches bs

  pub types_of_otherwise : Otherwise → List TypeT
  types_of_otherwise no_else = []
  types_of_otherwise (else_part is) = types_of_compound is

-- ---- the outermost types of a class

-- a written type, and the name of the declaration in which it stands, which is empty where it stands in none
pub record Written : Type 0 where
  pub feature : List ℕ
  pub type_tree : TypeT

abbrev pub types_of_groups : List GroupT → List TypeT
types_of_groups groups = map (λ g. g.type_tree) groups

abbrev pub types_of_kind : KindT → List TypeT
types_of_kind (routine locals body) = types_of_groups locals ++ types_of_compound body
types_of_kind _ = []

abbrev pub types_of_declaration : DeclT → List TypeT
types_of_declaration d =
    types_of_groups d.arguments ++ present d.result_type ++ types_of_expressions d.preconditions ++ types_of_kind d.kind
    ++ types_of_expressions d.postconditions

-- the name of a declaration that faults in it are told of: the first
abbrev pub feature_name : List NameAt → List ℕ
feature_name [] = []
feature_name (n ∷ ns) = n.name

abbrev pub written : List ℕ → TypeT → Written
written feature ty = record { feature = feature; type_tree = ty }

abbrev pub written_in : DeclT → List Written
written_in d = map (written (feature_name d.names)) (types_of_declaration d)

-- the name that faults in a class invariant are told of
abbrev pub invariant_name : List ℕ
invariant_name = codes "invariant"

-- those of the constraints, of the parents, of the declarations and of the invariant
abbrev pub written_types : ClassT → List Written
written_types c =
    map (written []) (flat_map (λ f. present f.constraint) c.formals ++ map (λ p. p.parent) c.parents)
    ++ flat_map written_in (declarations c)
    ++ map (written invariant_name) (types_of_expressions c.invariants)
