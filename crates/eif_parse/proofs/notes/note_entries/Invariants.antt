use Rattle.std.proofs.Common.{◌≤◌, ◌-◌, drop, length}
use Rattle.eif_grammar.specs.Goals as goals
use Rattle.eif_grammar.specs.Outcomes.{Outcome, Calls}
use Rattle.eif_parse.proofs.notes.note_entries.Given as goal

-- what is found from here on is found from the start
abbrev pub invariant-entries : goal.invariant-entries
invariant-entries l = record {
  within : l.next ≤ length l.tokens.tokens;
  forward : l.from ≤ l.next;
  goes_on : (u : Outcome (Unit {0})) → Calls (goals.class_goal goals.note_entries) (drop l.next l.tokens.tokens) u → Calls (goals.class_goal goals.note_entries) (drop l.from l.tokens.tokens) u;
}

abbrev pub decreases-entries : goal.decreases-entries
decreases-entries l = length l.tokens.tokens - l.next
