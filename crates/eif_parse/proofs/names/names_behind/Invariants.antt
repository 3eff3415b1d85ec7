use Rattle.std.proofs.Common.{◌≤◌, ◌-◌, drop, length, List}
use Rattle.eif_tree.specs.declared.NameAt.{NameAt}
use Rattle.eif_grammar.specs.Goals as goals
use Rattle.eif_grammar.specs.Outcomes.{Outcome, Runs, Calls}
use Rattle.eif_parse.specs.ClassSubrules as rule
use Rattle.eif_parse.proofs.Lists.{behind}
use Rattle.eif_parse.proofs.names.names_behind.Given as goal

-- what is found from here on goes behind the names so far
abbrev pub invariant-names : goal.invariant-names
invariant-names l = record {
  within : l.next ≤ length l.tokens.tokens;
  forward : l.fn.from ≤ l.next;
  goes_on : (u : Outcome (List NameAt)) → Calls (goals.class_goal goals.colon_names) (drop l.next l.tokens.tokens) u
      → Runs (rule.names_behind l.fn.names.items) (drop l.fn.from l.tokens.tokens) (behind l.tree.items u);
}

abbrev pub decreases-names : goal.decreases-names
decreases-names l = length l.tokens.tokens - l.next
