use Rattle.std.proofs.Common.{◌≤◌, ◌-◌, drop, length, map, List}
use Rattle.eif_tree.specs.Tree.{FormalT}
use Rattle.eif_tree.specs.View.{formal_view}
use Rattle.eif_grammar.specs.Outcomes.{Outcome, Runs}
use Rattle.eif_parse.specs.ClassSubrules as rule
use Rattle.eif_parse.proofs.Lists.{behind}
use Rattle.eif_parse.proofs.heads.formal_list.Given as goal

-- what is found from here on goes behind the formals so far
abbrev pub invariant-formals : goal.invariant-formals
invariant-formals l = record {
  within : l.next ≤ length l.tokens.tokens;
  forward : l.from ≤ l.next;
  goes_on : (u : Outcome (List FormalT)) → Runs rule.formal_list (drop l.next l.tokens.tokens) u
      → Runs rule.formal_list (drop l.from l.tokens.tokens) (behind (map formal_view l.tree.items) u);
}

abbrev pub decreases-formals : goal.decreases-formals
decreases-formals l = length l.tokens.tokens - l.next
