use Rattle.std.proofs.Common.{◌≤◌, ◌-◌, drop, length, map, List}
use Rattle.eif_tree.specs.Tree.{GroupT}
use Rattle.eif_tree.specs.View.{group_view}
use Rattle.eif_grammar.specs.ClassRules as rules
use Rattle.eif_grammar.specs.Outcomes.{Outcome, Runs}
use Rattle.eif_parse.proofs.Lists.{behind}
use Rattle.eif_parse.proofs.groups.group_list.Given as goal

-- what is found from here on goes behind the groups so far
abbrev pub invariant-groups : goal.invariant-groups
invariant-groups l = record {
  within : l.next ≤ length l.tokens.tokens;
  forward : l.from ≤ l.next;
  goes_on : (u : Outcome (List GroupT)) → Runs rules.groups_from (drop l.next l.tokens.tokens) u
      → Runs rules.groups_from (drop l.from l.tokens.tokens) (behind (map group_view l.tree.items) u);
}

abbrev pub decreases-groups : goal.decreases-groups
decreases-groups l = length l.tokens.tokens - l.next
