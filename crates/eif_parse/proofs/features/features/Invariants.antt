use Rattle.std.proofs.Common.{◌≤◌, ◌-◌, drop, length, List}
use Rattle.eif_tree.specs.Tree.{FeaturesT}
use Rattle.eif_grammar.specs.Goals as goals
use Rattle.eif_grammar.specs.Outcomes.{Outcome, Calls}
use Rattle.eif_parse.specs.ClassSubrules.{features_parts}
use Rattle.eif_parse.proofs.Lists.{behind}
use Rattle.eif_parse.proofs.features.features.Given as goal

-- what is found from here on goes behind the parts so far
abbrev pub invariant-parts : goal.invariant-parts
invariant-parts l = record {
  within : l.next ≤ length l.tokens.tokens;
  forward : l.from ≤ l.next;
  goes_on : (u : Outcome (List FeaturesT)) → Calls (goals.class_goal goals.features) (drop l.next l.tokens.tokens) u
      → Calls (goals.class_goal goals.features) (drop l.from l.tokens.tokens) (behind (features_parts l.tree) u);
}

abbrev pub decreases-parts : goal.decreases-parts
decreases-parts l = length l.tokens.tokens - l.next
