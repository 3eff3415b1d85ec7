use Rattle.std.proofs.Common.{◌≤◌, ◌-◌, drop, length}
use Rattle.eif_grammar.specs.Goals.{semis, instruction_goal}
use Rattle.eif_grammar.specs.Outcomes.{Outcome, Calls}
use Rattle.eif_parse_expr.proofs.claims.semis.Given as goal

-- what is found from here on is found from the start
abbrev pub invariant-semicolons : goal.invariant-semicolons
invariant-semicolons l = record {
  within : l.next ≤ length l.tokens.tokens;
  forward : l.from ≤ l.next;
  goes_on : (u : Outcome (Unit {0})) → Calls (instruction_goal semis) (drop l.next l.tokens.tokens) u → Calls (instruction_goal semis) (drop l.from l.tokens.tokens) u;
}

abbrev pub decreases-semicolons : goal.decreases-semicolons
decreases-semicolons l = length l.tokens.tokens - l.next
