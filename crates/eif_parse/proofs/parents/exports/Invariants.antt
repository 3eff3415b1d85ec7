use Rattle.std.proofs.Common.{◌≤◌, ◌-◌, drop, length, map, List}
use Rattle.eif_tree.specs.Tree.{ExportT}
use Rattle.eif_tree.specs.View.{export_view}
use Rattle.eif_grammar.specs.Goals as goals
use Rattle.eif_grammar.specs.Outcomes.{Outcome, Calls}
use Rattle.eif_parse.proofs.Lists.{behind}
use Rattle.eif_parse.proofs.parents.exports.Given as goal

-- what is found from here on goes behind the items so far
abbrev pub invariant-items : goal.invariant-items
invariant-items l = record {
  within : l.next ≤ length l.tokens.tokens;
  forward : l.from ≤ l.next;
  goes_on : (u : Outcome (List ExportT)) → Calls (goals.class_goal goals.exports) (drop l.next l.tokens.tokens) u → Calls (goals.class_goal goals.exports) (drop l.from l.tokens.tokens) (behind (map export_view l.tree.items) u);
}

abbrev pub decreases-items : goal.decreases-items
decreases-items l = length l.tokens.tokens - l.next
