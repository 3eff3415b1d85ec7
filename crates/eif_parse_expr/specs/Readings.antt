-- What a function that reads tokens ensures. Tokens go by their numbers, from 0.
use Rattle.std.specs.Prelude.{◌≡◌, ◌≢◌, ℕ, ◌≤◌, ◌+◌, List, [], ◌∷◌, Option, Some, None, drop, length, Result, Ok, Err, map}
use Rattle.std.specs.declared.vec.Vec.{Vec}
use Rattle.std.specs.declared.alloc.Global.{Global}
use Rattle.eif_tree.specs.declared.TypeTree.{TypeTree}
use Rattle.eif_tree.specs.declared.Expr.{Expr}
use Rattle.eif_tree.specs.Tree.{Types, Exs}
use Rattle.eif_tree.specs.View.{type_view, types_from, expr_view, exs_from}
use Rattle.eif_grammar.specs.declared.terminal.Terminal.{Terminal}
use Rattle.eif_grammar.specs.declared.terminal.Terminal.TheVariants as t
use Rattle.eif_grammar.specs.Tokens.{Token}
use Rattle.eif_grammar.specs.Spelling.{head}
use Rattle.eif_grammar.specs.Outcomes.{Outcome, got, refused}
use Rattle.eif_parse_expr.specs.declared.parsed.PartError.{PartError}
use Rattle.eif_parse_expr.specs.declared.parsed.PartError.TheVariants.{At, Memory}
use Rattle.eif_parse_expr.specs.declared.parsed.Parsed.{Parsed}

-- the next token, where there is one
abbrev pub first : List Token → Token
first [] = record { terminal = t.EndOfText; place = record { file = 0; offset = 0; line = 0; column = 0 }; text = [] }
first (w ∷ ws) = w

-- ---- one token

-- token `at` has that terminal, and `next` is the number of the token behind it
pub record Taken (x : Terminal) (ts : List Token) (at next : ℕ) : Type 0 where
  pub is : head (drop at ts) ≡ x
  pub behind : next ≡ at + 1
  pub within : next ≤ length ts

abbrev pub Takes : Terminal → List Token → ℕ → Result ℕ PartError → Type 0
Takes x ts at (Ok next) = Taken x ts at next
Takes x ts at (Err (At p)) = (p ≡ at) × (head (drop at ts) ≢ x)
Takes x ts at (Err Memory) = ⊥

-- the same, where another token is no error
abbrev pub Finds : Terminal → List Token → ℕ → Option ℕ → Type 0
Finds x ts at (Some next) = Taken x ts at next
Finds x ts at None = head (drop at ts) ≢ x

-- ---- many tokens

-- the outcome o holds of the tokens from start on, and leaves those from next on
pub record Leaves {A : Type 0} (holds : Outcome A → Type 0) (ts : List Token) (start next : ℕ) (o : List Token → Outcome A) : Type 0 where
  pub outcome : holds (o (drop next ts))
  pub forward : start ≤ next
  pub within : next ≤ length ts

abbrev pub Reads : {X A : Type 0} → (Outcome A → Type 0) → (X → A) → List Token → ℕ → Result (Parsed X) PartError → Type 0
Reads holds view ts start (Ok x) = Leaves holds ts start x.next (got (view x.tree))
Reads holds view ts start (Err (At p)) = Leaves holds ts start p refused
Reads holds view ts start (Err Memory) = Unit {0}

-- ---- lists of trees

abbrev pub types_view : Vec TypeTree Global → Types
types_view v = types_from (map type_view v.items)

abbrev pub exs_view : Vec Expr Global → Exs
exs_view v = exs_from (map expr_view v.items)
