use Rattle.std.proofs.Common.{◌≤◌, ◌-◌, drop, length, List}
use Rattle.eif_tree.specs.declared.NameAt.{NameAt}
use Rattle.eif_grammar.specs.Goals as goals
use Rattle.eif_grammar.specs.Outcomes.{Outcome, Calls}
use Rattle.eif_parse.proofs.Lists.{behind}
use Rattle.eif_parse.proofs.names.names.Given as goal

-- what is found from here on goes behind the names so far
abbrev pub invariant-names : goal.invariant-names
invariant-names l = record {
  within : l.next ≤ length l.tokens.tokens;
  forward : l.from ≤ l.next;
  goes_on : (u : Outcome (List NameAt)) → Calls (goals.class_goal goals.names) (drop l.next l.tokens.tokens) u
      → Calls (goals.class_goal goals.names) (drop l.from l.tokens.tokens) (behind l.tree.items u);
}

abbrev pub decreases-names : goal.decreases-names
decreases-names l = length l.tokens.tokens - l.next
