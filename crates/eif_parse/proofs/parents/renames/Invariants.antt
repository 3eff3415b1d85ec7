use Rattle.std.proofs.Common.{◌≤◌, ◌-◌, drop, length, List}
use Rattle.eif_tree.specs.declared.RenamePair.{RenamePair}
use Rattle.eif_grammar.specs.Goals as goals
use Rattle.eif_grammar.specs.Outcomes.{Outcome, Calls}
use Rattle.eif_parse.proofs.Lists.{behind}
use Rattle.eif_parse.proofs.parents.renames.Given as goal

-- what is found from here on goes behind the renamings so far
abbrev pub invariant-pairs : goal.invariant-pairs
invariant-pairs l = record {
  within : l.next ≤ length l.tokens.tokens;
  forward : l.from ≤ l.next;
  goes_on : (u : Outcome (List RenamePair)) → Calls (goals.class_goal goals.renames) (drop l.next l.tokens.tokens) u → Calls (goals.class_goal goals.renames) (drop l.from l.tokens.tokens) (behind l.tree.items u);
}

abbrev pub decreases-pairs : goal.decreases-pairs
decreases-pairs l = length l.tokens.tokens - l.next
