-- Texts of expressions and instructions as the grammar spells them, whose written types have P.
use Rattle.std.specs.Prelude.{◌≡◌, false, Option, Some, None}
use Rattle.std.specs.Str.{bytes_eq}
use Rattle.eif_tree.specs.declared.tree.Op.{Op}
use Rattle.eif_tree.specs.declared.tree.Op.TheVariants as op
use Rattle.eif_tree.specs.Members.{result_name}
use Rattle.eif_tree.specs.Tree.{TypeT, Ex, literal, void_value, current_value, result_value, unqualified, precursor, qualified, creation, test, paren, unary, binary, Exs, no_exs, and_ex, Ins, assign, call, create, choose, loop, check, Inss, no_inss, and_ins, Branches, no_branches, and_branch, Otherwise, no_else, else_part}

-- an operator with one operand
abbrev pub IsUnary : Op → Type 0
IsUnary op.Not = Unit {0}
IsUnary op.Plus = Unit {0}
IsUnary op.Minus = Unit {0}
IsUnary _ = ⊥

-- with two; `not` alone has one and never two
abbrev pub IsBinary : Op → Type 0
IsBinary op.Not = ⊥
IsBinary _ = Unit {0}

-- a type that may be left out
abbrev pub OfType : (TypeT → Type 0) → Option TypeT → Type 0
OfType P None = Unit {0}
OfType P (Some t) = P t

abbrev mutual
  -- `Result` is no unqualified name
  pub IsWritten : (TypeT → Type 0) → Ex → Type 0
  IsWritten P (literal p x) = Unit {0}
  IsWritten P (void_value p) = Unit {0}
  IsWritten P (current_value p) = Unit {0}
  IsWritten P (result_value p) = Unit {0}
  IsWritten P (unqualified p x args) = (bytes_eq x result_name ≡ false) × AreWritten P args
  IsWritten P (precursor p x args) = AreWritten P args
  IsWritten P (qualified p e x args) = IsWritten P e × AreWritten P args
  IsWritten P (creation p t x args) = P t × AreWritten P args
  IsWritten P (test p t y e) = OfType P t × IsWritten P e
  IsWritten P (paren p e) = IsWritten P e
  IsWritten P (unary p o e) = IsUnary o × IsWritten P e
  IsWritten P (binary p o q l r) = IsBinary o × IsWritten P l × IsWritten P r

  pub AreWritten : (TypeT → Type 0) → Exs → Type 0
  AreWritten P no_exs = Unit {0}
  AreWritten P (and_ex e es) = IsWritten P e × AreWritten P es

abbrev mutual
  -- assertions and variants aren't run, and may be anything
  pub InstructionIsWritten : (TypeT → Type 0) → Ins → Type 0
  InstructionIsWritten P (assign x e) = IsWritten P e
  InstructionIsWritten P (call e) = IsWritten P e
  InstructionIsWritten P (create p t x y args) = OfType P t × AreWritten P args
  InstructionIsWritten P (choose bs o) = BranchesAreWritten P bs × OtherwiseIsWritten P o
  InstructionIsWritten P (loop start claims exit body variant) =
      CompoundIsWritten P start × IsWritten P exit × CompoundIsWritten P body
  InstructionIsWritten P (check claims) = Unit {0}

  pub CompoundIsWritten : (TypeT → Type 0) → Inss → Type 0
  CompoundIsWritten P no_inss = Unit {0}
  CompoundIsWritten P (and_ins i is) = InstructionIsWritten P i × CompoundIsWritten P is

  pub BranchesAreWritten : (TypeT → Type 0) → Branches → Type 0
  BranchesAreWritten P no_branches = Unit {0}
  BranchesAreWritten P (and_branch e is bs) = IsWritten P e × CompoundIsWritten P is
      × BranchesAreWritten P bs

  pub OtherwiseIsWritten : (TypeT → Type 0) → Otherwise → Type 0
  OtherwiseIsWritten P no_else = Unit {0}
  OtherwiseIsWritten P (else_part is) = CompoundIsWritten P is
