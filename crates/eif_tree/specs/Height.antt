-- How high a tree is: 1 for a leaf, and otherwise one more than its highest part.
use Rattle.std.specs.Prelude.{ℕ, ◌+◌, max, List, [], ◌∷◌, Option, Some, None}
use Rattle.eif_tree.specs.Tree.{TypeT, Types, type_at, no_types, and_type, Ex, Exs, literal, void_value, current_value, result_value, unqualified, precursor, qualified, creation, test, paren, unary, binary, no_exs, and_ex, Ins, Inss, Branches, Otherwise, assign, call, create, choose, loop, check, no_inss, and_ins, no_branches, and_branch, no_else, else_part, GroupT, KindT, attribute, constant, deferred_body, routine, DeclT, FeaturesT, ClassT}

abbrev mutual
  pub type_height : TypeT → ℕ
  type_height (type_at p q m n ts) = types_height ts + 1

  pub types_height : Types → ℕ
  types_height no_types = 0
  types_height (and_type t ts) = max (type_height t) (types_height ts)

-- of a type that may be left out
abbrev pub written_height : Option TypeT → ℕ
written_height None = 0
written_height (Some t) = type_height t

abbrev mutual
  pub height : Ex → ℕ
  height (literal p x) = 1
  height (void_value p) = 1
  height (current_value p) = 1
  height (result_value p) = 1
  height (unqualified p n args) = heights args + 1
  height (precursor p n args) = heights args + 1
  height (qualified p t n args) = max (height t) (heights args) + 1
  height (creation p t n args) = max (type_height t) (heights args) + 1
  height (test p t l e) = max (written_height t) (height e) + 1
  height (paren p e) = height e + 1
  height (unary p o e) = height e + 1
  height (binary p o q l r) = max (height l) (height r) + 1

  pub heights : Exs → ℕ
  heights no_exs = 0
  heights (and_ex e es) = max (height e) (heights es)

-- of an expression that may be left out
abbrev pub maybe_height : Option Ex → ℕ
maybe_height None = 0
maybe_height (Some e) = height e

abbrev mutual
  pub instr_height : Ins → ℕ
  instr_height (assign n e) = height e + 1
  instr_height (call e) = height e + 1
  instr_height (create p t n c args) = max (written_height t) (heights args) + 1
  instr_height (choose bs o) = max (branches_height bs) (otherwise_height o) + 1
  instr_height (loop s cs e b v) = max (compound_height s) (max (heights cs) (max (height e) (max (compound_height b) (maybe_height v)))) + 1
  instr_height (check cs) = heights cs + 1

  pub compound_height : Inss → ℕ
  compound_height no_inss = 0
  compound_height (and_ins i is) = max (instr_height i) (compound_height is)

  pub branches_height : Branches → ℕ
  branches_height no_branches = 0
  branches_height (and_branch e is bs) = max (max (height e) (compound_height is)) (branches_height bs)

  pub otherwise_height : Otherwise → ℕ
  otherwise_height no_else = 0
  otherwise_height (else_part is) = compound_height is

-- ---- of a class text: its highest type, expression or instruction

-- the highest of a list
abbrev pub highest : {A : Type 0} → (A → ℕ) → List A → ℕ
highest f [] = 0
highest f (x ∷ xs) = max (f x) (highest f xs)

abbrev pub group_height : GroupT → ℕ
group_height g = type_height g.type_tree

abbrev pub kind_height : KindT → ℕ
kind_height attribute = 0
kind_height (constant x) = 0
kind_height deferred_body = 0
kind_height (routine ls is) = max (highest group_height ls) (compound_height is)

abbrev pub decl_height : DeclT → ℕ
decl_height d =
    max (highest group_height d.arguments) (max (written_height d.result_type)
    (max (heights d.preconditions) (max (kind_height d.kind) (heights d.postconditions))))

abbrev pub features_height : FeaturesT → ℕ
features_height f = highest decl_height f.decls

abbrev pub class_height : ClassT → ℕ
class_height c =
    max (highest (λ f. written_height f.constraint) c.formals) (max (highest (λ p. type_height p.parent) c.parents)
    (max (highest features_height c.features) (heights c.invariants)))
