-- What `parse_type`, `parse_expr` and `parse_compound` ensure.
use Rattle.std.specs.Prelude.{◌≡◌, ℕ, ◌≤◌, List, drop, length, Result, Ok, Err}
use Rattle.std.specs.declared.vec.Vec.{Vec}
use Rattle.std.specs.declared.alloc.Global.{Global}
use Rattle.eif_tree.specs.declared.TypeTree.{TypeTree}
use Rattle.eif_tree.specs.declared.Expr.{Expr}
use Rattle.eif_tree.specs.declared.Instr.{Instr}
use Rattle.eif_tree.specs.View.{type_view, expr_view}
use Rattle.eif_tree.specs.Height.{type_height, height, compound_height}
use Rattle.eif_grammar.specs.Tokens.{Token}
use Rattle.eif_grammar.specs.Parts.{TypePart, ExpressionPart, CompoundPart, OnlyPart, LongestFront}
use Rattle.eif_parse_expr.specs.InstructionSubrules.{inss_view}
use Rattle.eif_parse_expr.specs.declared.parsed.PartError.{PartError}
use Rattle.eif_parse_expr.specs.declared.parsed.PartError.TheVariants.{At, Memory}
use Rattle.eif_parse_expr.specs.declared.parsed.Parsed.{Parsed}

-- Tokens go by their numbers. The part begins at `start`, and `next` follows it.
pub record IsPart {A : Type 0} (part : List Token → List Token → A → Type 0) (height_of : A → ℕ) (ts : List Token) (start next : ℕ) (tree : A) (height : ℕ) : Type 0 where
  pub only : OnlyPart part (drop start ts) (drop next ts) tree
  pub high : height ≡ height_of tree
  pub forward : start ≤ next
  pub within : next ≤ length ts

-- The token with that number is the first past the longest front that begins a part.
pub record IsRefused {A : Type 0} (part : List Token → List Token → A → Type 0) (ts : List Token) (start at : ℕ) : Type 0 where
  pub past : LongestFront part (drop start ts) (drop at ts)
  pub forward : start ≤ at
  pub within : at ≤ length ts

abbrev pub ReadsType : ℕ → List Token → ℕ → Result (Parsed TypeTree) PartError → Type 0
ReadsType room ts start (Ok x) = IsPart (TypePart room) type_height ts start x.next (type_view x.tree) x.height
ReadsType room ts start (Err (At p)) = IsRefused (TypePart room) ts start p
ReadsType room ts start (Err Memory) = Unit {0}

abbrev pub ReadsExpression : ℕ → List Token → ℕ → Result (Parsed Expr) PartError → Type 0
ReadsExpression room ts start (Ok x) = IsPart (ExpressionPart room) height ts start x.next (expr_view x.tree) x.height
ReadsExpression room ts start (Err (At p)) = IsRefused (ExpressionPart room) ts start p
ReadsExpression room ts start (Err Memory) = Unit {0}

abbrev pub ReadsCompound : ℕ → List Token → ℕ → Result (Parsed (Vec Instr Global)) PartError → Type 0
ReadsCompound room ts start (Ok x) = IsPart (CompoundPart room) compound_height ts start x.next (inss_view x.tree) x.height
ReadsCompound room ts start (Err (At p)) = IsRefused (CompoundPart room) ts start p
ReadsCompound room ts start (Err Memory) = Unit {0}
