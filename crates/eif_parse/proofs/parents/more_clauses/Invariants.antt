use Rattle.std.proofs.Common.{◌≤◌, ◌-◌, drop, length}
use Rattle.eif_tree.specs.Tree.{ParentT}
use Rattle.eif_tree.specs.View.{parent_view}
use Rattle.eif_grammar.specs.Goals as goals
use Rattle.eif_grammar.specs.Outcomes.{Outcome, Calls}
use Rattle.eif_parse.proofs.parents.more_clauses.Given as goal

-- what is found from here on, behind the parent so far, is found from the start behind the first
abbrev pub invariant-clauses : goal.invariant-clauses
invariant-clauses l = record {
  within : l.next ≤ length l.tokens.tokens;
  forward : l.from ≤ l.next;
  goes_on : (u : Outcome ParentT) → Calls (goals.class_goal (goals.more_clauses (parent_view l.tree))) (drop l.next l.tokens.tokens) u
      → Calls (goals.class_goal (goals.more_clauses (parent_view l.fn.parent))) (drop l.from l.tokens.tokens) u;
}

abbrev pub decreases-clauses : goal.decreases-clauses
decreases-clauses l = length l.tokens.tokens - l.next
