-- Which tokens spell assertions and instructions.
use Rattle.std.specs.Prelude.{◌≡◌, ◌≢◌, Bool, true, false, List, [], ◌∷◌, Option, Some, None, codes}
use Rattle.eif_tree.specs.declared.NameAt.{NameAt}
use Rattle.eif_tree.specs.Tree.{TypeT, Ex, Exs, current_value, result_value, unqualified, precursor, qualified, no_exs, and_ex, Ins, Inss, Branches, Otherwise, assign, call, create, choose, loop, check, no_inss, and_ins, no_branches, and_branch, no_else, else_part}
use Rattle.eif_grammar.specs.declared.terminal.Terminal.{Terminal}
use Rattle.eif_grammar.specs.declared.terminal.Terminal.TheVariants as t
use Rattle.eif_grammar.specs.Tokens.{Token}
use Rattle.eif_grammar.specs.Forms.{begins_expression, begins_instruction, target_level}
use Rattle.eif_grammar.specs.Spelling.{Spelling, head, ◌⨟◌, ◌or◌, given, nothing, before, never, the, the_at, the_name, semicolons}
use Rattle.eif_grammar.specs.SpelledExpressions.{undotted, spells, spells_arguments, spells_expression, braced_type, spells_creator}

-- ---- assertions

-- an identifier with `:` directly after it
abbrev pub begins_tag : List Token → Type 0
begins_tag [] = ⊥
begins_tag (token ∷ tokens) = (token.terminal ≡ t.Identifier) × (head tokens ≡ t.Colon)

abbrev pub untagged : Spelling
untagged tokens rest = (begins_tag tokens → ⊥) × (tokens ≡ rest)

-- a tag, or none; tags are in no tree
abbrev pub tag : Spelling
tag = (the t.Identifier ⨟ the t.Colon) or untagged

--   Assertions = {[Id ":"] Expr {";"}}
abbrev pub spells_assertions : Exs → Spelling
spells_assertions no_exs = before (λ x. begins_expression x ≡ false)
spells_assertions (and_ex e es) = tag ⨟ spells_expression e ⨟ semicolons ⨟ spells_assertions es

-- assertions behind that word, or none at all
abbrev pub assertions_behind : Terminal → Spelling → Exs → Spelling
assertions_behind x second es = (the x ⨟ second ⨟ spells_assertions es) or (given (es ≡ no_exs) ⨟ before (λ y. y ≢ x))

-- ---- instructions

-- `Result` is a target by the name `result`
abbrev pub spells_target : NameAt → Spelling
spells_target n = the_name n or (the_at t.Result n.place ⨟ given (n.name ≡ codes "result"))

-- what a chain of calls may begin with: a call, or an entity behind which a dot stands
abbrev pub begins_calls : Ex → Bool
begins_calls (current_value p) = true
begins_calls (result_value p) = true
begins_calls (unqualified p n args) = true
begins_calls (precursor p n args) = true
begins_calls (qualified p e n args) = begins_calls e
begins_calls _ = false

-- an expression that may stand as a call instruction
abbrev pub is_call : Ex → Bool
is_call (unqualified p n args) = true
is_call (precursor p n args) = true
is_call (qualified p e n args) = begins_calls e
is_call _ = false

-- behind a call: a name alone with `:=` behind it would be a target
abbrev pub no_assignment : Ex → Spelling
no_assignment (unqualified p n no_exs) = before (λ x. x ≢ t.Assign)
no_assignment _ = nothing

abbrev pub spells_created_type : Option TypeT → Spelling
spells_created_type None = before (λ x. x ≢ t.OpenBrace)
spells_created_type (Some ty) = braced_type ty

-- a variant, if there is one
abbrev pub spells_variant : Option Ex → Spelling
spells_variant None = before (λ x. x ≢ t.Variant)
spells_variant (Some e) = the t.Variant ⨟ tag ⨟ spells_expression e ⨟ semicolons

abbrev mutual
  --   Instr = Target ":=" Expr
  --         | Call_start {"." Id [Args]}
  --         | ("Current" | "Result") "." Id [Args] {"." Id [Args]}
  --         | "create" ["{" Type "}"] Target ["." Id [Args]]
  --         | "if" Expr "then" Compound {"elseif" Expr "then" Compound} ["else" Compound] "end"
  --         | "from" Compound ["invariant" Assertions] "until" Expr "loop" Compound ["variant" [Id ":"] Expr {";"}] "end"
  --         | "check" Assertions "end"
  pub spells_instruction : Ins → Spelling
  spells_instruction (assign n e) = spells_target n ⨟ the t.Assign ⨟ spells_expression e
  spells_instruction (call e) = given (is_call e ≡ true) ⨟ undotted (spells e target_level) ⨟ no_assignment e
  spells_instruction (create p ty n c args) =
      the_at t.Create p ⨟ spells_created_type ty ⨟ spells_target n ⨟ spells_creator c args (spells_arguments args)
  spells_instruction (choose bs o) = spells_branches t.If bs ⨟ spells_otherwise o ⨟ the t.End
  spells_instruction (loop s cs e b v) =
      the t.From ⨟ spells_compound s ⨟ assertions_behind t.Invariant nothing cs ⨟ the t.Until ⨟ spells_expression e
      ⨟ the t.Loop ⨟ spells_compound b ⨟ spells_variant v ⨟ the t.End
  spells_instruction (check cs) = the t.Check ⨟ spells_assertions cs ⨟ the t.End

  --   Compound = {Instr | ";"}
  pub spells_compound : Inss → Spelling
  spells_compound no_inss = semicolons ⨟ before (λ x. begins_instruction x ≡ false)
  spells_compound (and_ins i is) = semicolons ⨟ spells_instruction i ⨟ spells_compound is

  -- the first branch behind that word, and those behind `elseif`
  pub spells_branches : Terminal → Branches → Spelling
  spells_branches x no_branches = never
  spells_branches x (and_branch e b bs) = the x ⨟ spells_expression e ⨟ the t.Then ⨟ spells_compound b ⨟ spells_elseifs bs

  pub spells_elseifs : Branches → Spelling
  spells_elseifs no_branches = before (λ x. x ≢ t.Elseif)
  spells_elseifs (and_branch e b bs) = the t.Elseif ⨟ spells_expression e ⨟ the t.Then ⨟ spells_compound b ⨟ spells_elseifs bs

  pub spells_otherwise : Otherwise → Spelling
  spells_otherwise no_else = before (λ x. x ≢ t.Else)
  spells_otherwise (else_part b) = the t.Else ⨟ spells_compound b
