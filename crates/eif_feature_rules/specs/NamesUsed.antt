-- The names that a declaration uses of its own class: each unqualified name and each target, wherever it stands.
use Rattle.std.specs.Prelude.{ℕ, List, [], ◌∷◌, ◌++◌, Option, Some, None}
use Rattle.eif_tree.specs.Members.{body_of}
use Rattle.eif_tree.specs.Tree.{Ex, literal, void_value, current_value, result_value, unqualified, precursor, qualified, creation, test, paren, unary, binary, Exs, no_exs, and_ex, Ins, assign, call, create, choose, loop, check, Inss, no_inss, and_ins, Branches, no_branches, and_branch, Otherwise, no_else, else_part, DeclT}

abbrev mutual
  -- by an expression
  pub names_in : Ex → List (List ℕ)
  names_in (literal p x) = []
  names_in (void_value p) = []
  names_in (current_value p) = []
  names_in (result_value p) = []
  names_in (unqualified p n args) = n ∷ names_in_all args
  names_in (precursor p n args) = names_in_all args
  names_in (qualified p e n args) = names_in e ++ names_in_all args
  names_in (creation p ty n args) = names_in_all args
  names_in (test p ty l e) = names_in e
  names_in (paren p e) = names_in e
  names_in (unary p o e) = names_in e
  names_in (binary p o q l r) = names_in l ++ names_in r

  -- by expressions in their order
  pub names_in_all : Exs → List (List ℕ)
  names_in_all no_exs = []
  names_in_all (and_ex e es) = names_in e ++ names_in_all es

-- by the variant of a loop
abbrev pub names_in_variant : Option Ex → List (List ℕ)
names_in_variant None = []
names_in_variant (Some e) = names_in e

abbrev mutual
  -- by an instruction
  pub names_in_instruction : Ins → List (List ℕ)
  names_in_instruction (assign n e) = n.name ∷ names_in e
  names_in_instruction (call e) = names_in e
  names_in_instruction (create p ty n m args) = n.name ∷ names_in_all args
  names_in_instruction (choose bs o) = names_in_branches bs ++ names_in_otherwise o
  names_in_instruction (loop start claims exit body variant) =
      names_in_compound start ++ names_in_all claims ++ names_in exit ++ names_in_compound body ++ names_in_variant variant
  names_in_instruction (check claims) = names_in_all claims

  -- by a compound
  pub names_in_compound : Inss → List (List ℕ)
  names_in_compound no_inss = []
  names_in_compound (and_ins i is) = names_in_instruction i ++ names_in_compound is

  -- by the branches of an `if`
  pub names_in_branches : Branches → List (List ℕ)
  names_in_branches no_branches = []
  names_in_branches (and_branch e is bs) = names_in e ++ names_in_compound is ++ names_in_branches bs

  -- by its `else` part
  pub names_in_otherwise : Otherwise → List (List ℕ)
  names_in_otherwise no_else = []
  names_in_otherwise (else_part is) = names_in_compound is

-- by a declaration, its assertions included; a local or argument of that name hides nothing here
abbrev pub names_used : DeclT → List (List ℕ)
names_used x = names_in_all x.preconditions ++ names_in_compound (body_of x.kind) ++ names_in_all x.postconditions
