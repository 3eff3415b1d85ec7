use Rattle.std.proofs.Common.{◌≡◌, ◌≤◌, ◌-◌, drop, length, map}
use Rattle.eif_tree.specs.Tree.{Exs}
use Rattle.eif_tree.specs.Height.{heights}
use Rattle.eif_tree.specs.View.{assertion_view, exs_from}
use Rattle.eif_grammar.specs.Goals as goals
use Rattle.eif_grammar.specs.Outcomes.{Outcome, Calls}
use Rattle.eif_parse_expr.proofs.Lists.{exs_behind}
use Rattle.eif_parse_expr.proofs.claims.assertions.Given as goal

-- what is found from here on goes behind the assertions so far
abbrev pub invariant-claims : goal.invariant-claims
invariant-claims l = record {
  within : l.next ≤ length l.tokens.tokens;
  forward : l.from ≤ l.next;
  low : l.height ≤ l.room;
  height : l.height ≡ heights (exs_from (map assertion_view l.tree.items));
  goes_on : (u : Outcome Exs) → Calls (goals.instruction_goal (goals.assertions l.room)) (drop l.next l.tokens.tokens) u
      → Calls (goals.instruction_goal (goals.assertions l.room)) (drop l.from l.tokens.tokens) (exs_behind (map assertion_view l.tree.items) u);
}

abbrev pub decreases-claims : goal.decreases-claims
decreases-claims l = length l.tokens.tokens - l.next
