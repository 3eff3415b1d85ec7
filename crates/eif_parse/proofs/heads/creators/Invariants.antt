use Rattle.std.proofs.Common.{◌≤◌, ◌-◌, drop, length, map, List}
use Rattle.eif_tree.specs.Tree.{CreatorsT}
use Rattle.eif_tree.specs.View.{creators_view}
use Rattle.eif_grammar.specs.Goals as goals
use Rattle.eif_grammar.specs.Outcomes.{Outcome, Calls}
use Rattle.eif_parse.proofs.Lists.{behind}
use Rattle.eif_parse.proofs.heads.creators.Given as goal

-- what is found from here on goes behind the parts so far
abbrev pub invariant-parts : goal.invariant-parts
invariant-parts l = record {
  within : l.next ≤ length l.tokens.tokens;
  forward : l.from ≤ l.next;
  goes_on : (u : Outcome (List CreatorsT)) → Calls (goals.class_goal goals.creators) (drop l.next l.tokens.tokens) u
      → Calls (goals.class_goal goals.creators) (drop l.from l.tokens.tokens) (behind (map creators_view l.tree.items) u);
}

abbrev pub decreases-parts : goal.decreases-parts
decreases-parts l = length l.tokens.tokens - l.next
