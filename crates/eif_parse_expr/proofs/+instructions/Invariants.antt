use Rattle.std.proofs.Common.{◌≡◌, ◌≤◌, ◌+◌, ◌-◌, ◌*◌, length, drop, map}
use Rattle.eif_tree.specs.Tree.{Inss, Branches}
use Rattle.eif_tree.specs.Height.{compound_height, branches_height}
use Rattle.eif_tree.specs.View.{instr_view, inss_from, branch_view, branches_from}
use Rattle.eif_grammar.specs.Goals as goals
use Rattle.eif_grammar.specs.Outcomes.{Outcome, Runs, Calls}
use Rattle.eif_parse_expr.specs.InstructionSubrules as rule
use Rattle.eif_parse_expr.proofs.InstructionLists.{inss_behind, branches_behind}
use Rattle.eif_parse_expr.proofs.+instructions.Given as goal

abbrev pub decreases-branches::branch_list : goal.decreases-branches::branch_list
decreases-branches::branch_list l = l.room * 8 + 5

abbrev pub decreases-branches::branch : goal.decreases-branches::branch
decreases-branches::branch l = l.room * 8 + 4

abbrev pub decreases-branches::otherwise : goal.decreases-branches::otherwise
decreases-branches::otherwise l = l.room * 8 + 4

abbrev pub decreases-compounds::compound : goal.decreases-compounds::compound
decreases-compounds::compound l = l.room * 8 + 3

abbrev pub decreases-instructions::instruction : goal.decreases-instructions::instruction
decreases-instructions::instruction l = l.room * 8 + 2

abbrev pub decreases-branches::conditional : goal.decreases-branches::conditional
decreases-branches::conditional l = l.room * 8 + 1

abbrev pub decreases-loops::repeated : goal.decreases-loops::repeated
decreases-loops::repeated l = l.room * 8 + 1

-- what is found from here on goes behind the branches so far
abbrev pub invariant-branches::branch_list-branches : goal.invariant-branches::branch_list-branches
invariant-branches::branch_list-branches l = record {
  within : l.next ≤ length l.tokens.tokens;
  forward : l.from ≤ l.next;
  low : l.height ≤ l.room;
  height : l.height ≡ branches_height (branches_from (map branch_view l.tree.items));
  goes_on : (u : Outcome Branches) → Runs (rule.branch_list l.room) (drop l.next l.tokens.tokens) u
      → Runs (rule.branch_list l.room) (drop l.from l.tokens.tokens) (branches_behind (map branch_view l.tree.items) u);
}

abbrev pub decreases-branches::branch_list-branches : goal.decreases-branches::branch_list-branches
decreases-branches::branch_list-branches l = length l.tokens.tokens - l.next

-- what is found from here on goes behind the instructions so far
abbrev pub invariant-compounds::compound-instructions : goal.invariant-compounds::compound-instructions
invariant-compounds::compound-instructions l = record {
  within : l.next ≤ length l.tokens.tokens;
  forward : l.from ≤ l.next;
  low : l.height ≤ l.room;
  height : l.height ≡ compound_height (inss_from (map instr_view l.tree.items));
  goes_on : (u : Outcome Inss) → Calls (goals.instruction_goal (goals.compound l.room)) (drop l.next l.tokens.tokens) u
      → Calls (goals.instruction_goal (goals.compound l.room)) (drop l.from l.tokens.tokens) (inss_behind (map instr_view l.tree.items) u);
}

abbrev pub decreases-compounds::compound-instructions : goal.decreases-compounds::compound-instructions
decreases-compounds::compound-instructions l = length l.tokens.tokens - l.next
