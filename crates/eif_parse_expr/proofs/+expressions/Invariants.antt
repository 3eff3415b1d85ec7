use Rattle.std.proofs.Common.{◌≡◌, ◌≤◌, ◌+◌, ◌-◌, ◌*◌, length, drop, map}
use Rattle.eif_tree.specs.Tree.{Ex, Exs}
use Rattle.eif_tree.specs.Height as tall
use Rattle.eif_tree.specs.View.{expr_view, exs_from}
use Rattle.eif_grammar.specs.Goals.{expression, climbing, dots, listed, expression_goal}
use Rattle.eif_grammar.specs.Outcomes.{Outcome, Calls}
use Rattle.eif_parse_expr.proofs.Lists.{exs_behind}
use Rattle.eif_parse_expr.proofs.+expressions.Given as goal

abbrev pub decreases-chains::arguments : goal.decreases-chains::arguments
decreases-chains::arguments l = l.room * 16

abbrev pub decreases-chains::creator : goal.decreases-chains::creator
decreases-chains::creator l = l.room * 16 + 1

abbrev pub decreases-chains::link : goal.decreases-chains::link
decreases-chains::link l = l.room * 16 + 1

abbrev pub decreases-chains::precursor_rest : goal.decreases-chains::precursor_rest
decreases-chains::precursor_rest l = l.room * 16 + 1

abbrev pub decreases-chains::dots : goal.decreases-chains::dots
decreases-chains::dots l = l.room * 16 + 2

abbrev pub decreases-primaries::created : goal.decreases-primaries::created
decreases-primaries::created l = l.room * 16 + 2

abbrev pub decreases-primaries::parenthesized : goal.decreases-primaries::parenthesized
decreases-primaries::parenthesized l = l.room * 16 + 2

abbrev pub decreases-primaries::primary : goal.decreases-primaries::primary
decreases-primaries::primary l = l.room * 16 + 3

abbrev pub decreases-chains::chain : goal.decreases-chains::chain
decreases-chains::chain l = l.room * 16 + 4

abbrev pub decreases-operands::tested : goal.decreases-operands::tested
decreases-operands::tested l = l.room * 16 + 5

abbrev pub decreases-operands::operand : goal.decreases-operands::operand
decreases-operands::operand l = l.room * 16 + 6

abbrev pub decreases-expressions::expression : goal.decreases-expressions::expression
decreases-expressions::expression l = l.room * 16 + 7

abbrev pub decreases-chains::listed : goal.decreases-chains::listed
decreases-chains::listed l = l.room * 16 + 8

-- what is found from here on is what was to be found
abbrev pub invariant-expressions::expression-signs : goal.invariant-expressions::expression-signs
invariant-expressions::expression-signs l = record {
  within : l.left.next ≤ length l.tokens.tokens;
  forward : l.from ≤ l.left.next;
  some : 1 ≤ l.left.height;
  low : l.left.height ≤ l.room;
  height : l.left.height ≡ tall.height (expr_view l.left.tree);
  goes_on : (u : Outcome Ex) → Calls (expression_goal (climbing l.room l.least (expr_view l.left.tree))) (drop l.left.next l.tokens.tokens) u
      → Calls (expression_goal (expression l.room l.least)) (drop l.from l.tokens.tokens) u;
}

abbrev pub decreases-expressions::expression-signs : goal.decreases-expressions::expression-signs
decreases-expressions::expression-signs l = l.room - l.left.height

abbrev pub invariant-chains::dots-links : goal.invariant-chains::dots-links
invariant-chains::dots-links l = record {
  within : l.left.next ≤ length l.tokens.tokens;
  forward : l.fn.first.next ≤ l.left.next;
  low : l.left.height ≤ l.room;
  height : l.left.height ≡ tall.height (expr_view l.left.tree);
  goes_on : (u : Outcome Ex) → Calls (expression_goal (dots l.room (expr_view l.left.tree))) (drop l.left.next l.tokens.tokens) u
      → Calls (expression_goal (dots l.room (expr_view l.fn.first.tree))) (drop l.fn.first.next l.tokens.tokens) u;
}

abbrev pub decreases-chains::dots-links : goal.decreases-chains::dots-links
decreases-chains::dots-links l = l.room - l.left.height

-- what is found from here on goes behind the arguments so far
abbrev pub invariant-chains::listed-items : goal.invariant-chains::listed-items
invariant-chains::listed-items l = record {
  within : l.next ≤ length l.tokens.tokens;
  forward : l.from ≤ l.next;
  low : l.height ≤ l.room;
  height : l.height ≡ tall.heights (exs_from (map expr_view l.tree.items));
  goes_on : (u : Outcome Exs) → Calls (expression_goal (listed l.room)) (drop l.next l.tokens.tokens) u
      → Calls (expression_goal (listed l.room)) (drop l.from l.tokens.tokens) (exs_behind (map expr_view l.tree.items) u);
}

abbrev pub decreases-chains::listed-items : goal.decreases-chains::listed-items
decreases-chains::listed-items l = length l.tokens.tokens - l.next
