use Rattle.std.proofs.Common.{◌≤◌, ◌-◌, drop, length}
use Rattle.eif_grammar.specs.Outcomes.{Outcome, Runs}
use Rattle.eif_parse.specs.ClassSubrules as rule
use Rattle.eif_parse.proofs.notes.note_items.Given as goal

-- what is found from here on is found from the start
abbrev pub invariant-items : goal.invariant-items
invariant-items l = record {
  within : l.next ≤ length l.tokens.tokens;
  forward : l.from ≤ l.next;
  goes_on : (u : Outcome (Unit {0})) → Runs rule.note_items (drop l.next l.tokens.tokens) u → Runs rule.note_items (drop l.from l.tokens.tokens) u;
}

abbrev pub decreases-items : goal.decreases-items
decreases-items l = length l.tokens.tokens - l.next
