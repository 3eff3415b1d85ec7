use Rattle.std.proofs.Common.{◌≤◌, ◌-◌, drop, length, map, List}
use Rattle.eif_tree.specs.Tree.{ParentT}
use Rattle.eif_tree.specs.View.{parent_view}
use Rattle.eif_grammar.specs.ClassRules.{parents_from}
use Rattle.eif_grammar.specs.Outcomes.{Outcome, Runs}
use Rattle.eif_parse.proofs.Lists.{behind}
use Rattle.eif_parse.proofs.parents.parent_list.Given as goal

-- what is found from here on goes behind the parents so far
abbrev pub invariant-parents : goal.invariant-parents
invariant-parents l = record {
  within : l.next ≤ length l.tokens.tokens;
  forward : l.from ≤ l.next;
  goes_on : (u : Outcome (List ParentT)) → Runs parents_from (drop l.next l.tokens.tokens) u → Runs parents_from (drop l.from l.tokens.tokens) (behind (map parent_view l.tree.items) u);
}

abbrev pub decreases-parents : goal.decreases-parents
decreases-parents l = length l.tokens.tokens - l.next
