use Rattle.std.proofs.Common.{◌≤◌, ◌-◌, drop, length, map, List}
use Rattle.eif_tree.specs.Tree.{GroupT}
use Rattle.eif_tree.specs.View.{group_view}
use Rattle.eif_grammar.specs.Goals as goals
use Rattle.eif_grammar.specs.Outcomes.{Outcome, Calls}
use Rattle.eif_parse.proofs.Lists.{behind}
use Rattle.eif_parse.proofs.groups.local_groups.Given as goal

-- what is found from here on goes behind the groups so far
abbrev pub invariant-groups : goal.invariant-groups
invariant-groups l = record {
  within : l.next ≤ length l.tokens.tokens;
  forward : l.from ≤ l.next;
  goes_on : (u : Outcome (List GroupT)) → Calls (goals.class_goal goals.local_groups) (drop l.next l.tokens.tokens) u
      → Calls (goals.class_goal goals.local_groups) (drop l.from l.tokens.tokens) (behind (map group_view l.tree.items) u);
}

abbrev pub decreases-groups : goal.decreases-groups
decreases-groups l = length l.tokens.tokens - l.next
