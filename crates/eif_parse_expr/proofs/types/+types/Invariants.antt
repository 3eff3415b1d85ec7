use Rattle.std.proofs.Common.{◌≡◌, ◌≤◌, ◌+◌, ◌-◌, ◌*◌, length, drop, map}
use Rattle.eif_tree.specs.Tree.{Types}
use Rattle.eif_tree.specs.Height.{types_height}
use Rattle.eif_tree.specs.View.{type_view, types_from}
use Rattle.eif_grammar.specs.Outcomes.{Outcome, Runs}
use Rattle.eif_parse_expr.specs.Subrules as rule
use Rattle.eif_parse_expr.proofs.Lists.{types_behind}
use Rattle.eif_parse_expr.proofs.types.+types.Given as goal

abbrev pub decreases-written_type : goal.decreases-written_type
decreases-written_type l = l.room * 4 + 2

abbrev pub decreases-headed_type : goal.decreases-headed_type
decreases-headed_type l = l.room * 4 + 1

abbrev pub decreases-actuals : goal.decreases-actuals
decreases-actuals l = l.room * 4

abbrev pub decreases-type_list : goal.decreases-type_list
decreases-type_list l = l.room * 4 + 3

-- what is found from here on goes behind the types so far
abbrev pub invariant-type_list-items : goal.invariant-type_list-items
invariant-type_list-items l = record {
  within : l.next ≤ length l.tokens.tokens;
  forward : l.from ≤ l.next;
  low : l.height ≤ l.room;
  height : l.height ≡ types_height (types_from (map type_view l.tree.items));
  goes_on : (u : Outcome Types) → Runs (rule.type_list l.room) (drop l.next l.tokens.tokens) u
      → Runs (rule.type_list l.room) (drop l.from l.tokens.tokens) (types_behind (map type_view l.tree.items) u);
}

abbrev pub decreases-type_list-items : goal.decreases-type_list-items
decreases-type_list-items l = length l.tokens.tokens - l.next
