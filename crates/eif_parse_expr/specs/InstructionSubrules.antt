-- Parts of the grammar's rules for instructions, as functions read them, and what lists of instructions are.
use Rattle.std.specs.Prelude.{ℕ, Option, map}
use Rattle.std.specs.Option.{option_map}
use Rattle.std.specs.declared.vec.Vec.{Vec}
use Rattle.std.specs.declared.alloc.Global.{Global}
use Rattle.eif_tree.specs.declared.Assertion.{Assertion}
use Rattle.eif_tree.specs.declared.Branch.{Branch}
use Rattle.eif_tree.specs.declared.Instr.{Instr}
use Rattle.eif_tree.specs.Tree.{Ex, Exs, Inss, Branches, Otherwise, and_branch}
use Rattle.eif_tree.specs.View.{exs_from, inss_from, branches_from, otherwise_from, assertion_view, instr_view, branch_view}
use Rattle.eif_grammar.specs.declared.terminal.Terminal.TheVariants as t
use Rattle.eif_grammar.specs.Goals.{expression, compound, elseifs, expression_goal, instruction_goal}
use Rattle.eif_grammar.specs.Reader.{Reader, done, call, expect}

abbrev pub assertions_view : Vec Assertion Global → Exs
assertions_view v = exs_from (map assertion_view v.items)

abbrev pub inss_view : Vec Instr Global → Inss
inss_view v = inss_from (map instr_view v.items)

abbrev pub branches_view : Vec Branch Global → Branches
branches_view v = branches_from (map branch_view v.items)

abbrev pub otherwise_view : Option (Vec Instr Global) → Otherwise
otherwise_view o = otherwise_from (option_map (λ v. map instr_view v.items) o)

-- a condition and what is done where it holds
abbrev pub branch : ℕ → Reader (Ex × Inss)
branch room =
    call (expression_goal (expression room 1)) (λ e.
    expect t.Then (
    call (instruction_goal (compound room)) (λ b. done (e, b))))

-- one branch or more
abbrev pub branch_list : ℕ → Reader Branches
branch_list room =
    call (expression_goal (expression room 1)) (λ e.
    expect t.Then (
    call (instruction_goal (compound room)) (λ b.
    call (instruction_goal (elseifs room)) (λ bs. done (and_branch e b bs)))))
