-- Instructions that tokens spell are written as the grammar has them.
use Rattle.std.proofs.Common.{Option, Some, None}
use Rattle.eif_tree.specs.declared.NameAt.{NameAt}
use Rattle.eif_tree.specs.Tree.{TypeT, Ex, Exs, unqualified, no_exs, and_ex, Ins, Inss, Branches, Otherwise, assign, call, create, choose, loop, check, no_inss, and_ins, no_branches, and_branch, no_else, else_part}
use Rattle.eif_grammar.specs.declared.terminal.Terminal.{Terminal}
use Rattle.eif_grammar.specs.declared.terminal.Terminal.TheVariants as t
use Rattle.eif_grammar.specs.Forms.{target_level}
use Rattle.eif_grammar.specs.Spelling.{Spelling}
use Rattle.eif_grammar.specs.SpelledInstructions as spelled
use Rattle.eif_spelled_trees.specs.WrittenTexts.{InstructionIsWritten, CompoundIsWritten, BranchesAreWritten, OtherwiseIsWritten}
use Rattle.eif_spelled_laws.proofs.Keeping.{Gives, Keeps, told, kept, both, ◌▸◌, first, either, also, nothing, stays, never, the, the_at, the_name, semicolons}
use Rattle.eif_spelled_laws.proofs.WrittenExpressions.{any, of_type, braced_type, creator, expression_at, arguments, expression}

-- ---- assertions, which may be anything

tag : Keeps spelled.tag
tag = either (the t.Identifier ▸ the t.Colon) stays

assertions : (es : Exs) → Keeps (spelled.spells_assertions es)
assertions no_exs = stays
assertions (and_ex e es) = tag ▸ expression e ▸ semicolons ▸ assertions es

pub assertions_behind : (x : Terminal) {s : Spelling} → Keeps s → (es : Exs) → Keeps (spelled.assertions_behind x s es)
assertions_behind x second es = either (the x ▸ second ▸ assertions es) (stays ▸ stays)

-- ---- parts of instructions

target : (n : NameAt) → Keeps (spelled.spells_target n)
target n = either (kept (the_name n)) (the_at t.Result n.place ▸ stays)

no_assignment : (e : Ex) → Keeps (spelled.no_assignment e)
no_assignment (unqualified p n no_exs) = stays
no_assignment _ = nothing

created_type : (ty : Option TypeT) → Keeps (spelled.spells_created_type ty)
created_type None = stays
created_type (Some ty) = braced_type ty

variant : (v : Option Ex) → Keeps (spelled.spells_variant v)
variant None = stays
variant (Some e) = the t.Variant ▸ tag ▸ expression e ▸ semicolons

-- ---- instructions

mutual
  instruction : (i : Ins) → Gives (spelled.spells_instruction i) (InstructionIsWritten any i)
  instruction (assign n e) = target n ▸ the t.Assign ▸ expression e
  instruction (call e) = stays ▸ first (also (expression_at e target_level)) (no_assignment e)
  instruction (create p ty n c args) =
      told (λ x. (of_type ty, x))
      (the_at t.Create p ▸ created_type ty ▸ target n ▸ creator c args (arguments args))
  instruction (choose bs o) = both (branches t.If bs) (first (otherwise o) (the t.End))
  instruction (loop s cs e b v) =
      told (λ x. (x.0, x.1.0, x.1.1))
      (the t.From
      ▸ both (compound s) (assertions_behind t.Invariant nothing cs ▸ the t.Until
      ▸ both (expression e) (the t.Loop ▸ first (compound b) (variant v ▸ the t.End))))
  instruction (check cs) = the t.Check ▸ assertions cs ▸ the t.End

  pub compound : (is : Inss) → Gives (spelled.spells_compound is) (CompoundIsWritten any is)
  compound no_inss = semicolons ▸ stays
  compound (and_ins i is) = semicolons ▸ both (instruction i) (compound is)

  branches : (x : Terminal) (bs : Branches) → Gives (spelled.spells_branches x bs) (BranchesAreWritten any bs)
  branches x no_branches = never
  branches x (and_branch e b bs) =
      told (λ x. (x.0, x.1.0, x.1.1))
      (the x ▸ both (expression e) (the t.Then ▸ both (compound b) (elseifs bs)))

  elseifs : (bs : Branches) → Gives (spelled.spells_elseifs bs) (BranchesAreWritten any bs)
  elseifs no_branches = stays
  elseifs (and_branch e b bs) =
      told (λ x. (x.0, x.1.0, x.1.1))
      (the t.Elseif ▸ both (expression e) (the t.Then ▸ both (compound b) (elseifs bs)))

  otherwise : (o : Otherwise) → Gives (spelled.spells_otherwise o) (OtherwiseIsWritten any o)
  otherwise no_else = stays
  otherwise (else_part b) = the t.Else ▸ compound b
