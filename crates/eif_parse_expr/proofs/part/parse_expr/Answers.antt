use Rattle.std.proofs.Common.{◌≡◌, ℕ, ◌≤◌, List, drop, Result, Ok, Err, IfOk}
use Rattle.eif_tree.specs.declared.Expr.{Expr}
use Rattle.eif_tree.specs.View.{expr_view}
use Rattle.eif_tree.specs.Height.{height}
use Rattle.eif_grammar.specs.Tokens.{Token}
use Rattle.eif_grammar.specs.Goals.{expression, expression_goal}
use Rattle.eif_grammar.specs.Outcomes.{Calls}
use Rattle.eif_grammar_laws.proofs.ExpressionLaws.{only_expression}
use Rattle.eif_grammar_laws.proofs.FrontLaws.{longest_expression}
use Rattle.eif_parse_expr.specs.declared.parsed.PartError.{PartError}
use Rattle.eif_parse_expr.specs.declared.parsed.PartError.TheVariants.{At, Memory}
use Rattle.eif_parse_expr.specs.declared.parsed.Parsed.{Parsed}
use Rattle.eif_parse_expr.specs.Readings.{Reads}
use Rattle.eif_parse_expr.specs.ReadParts.{ReadsExpression}
use Rattle.eif_parse_expr.proofs.part.parse_expr.Goals as goal

of_reading : (room : ℕ) (ts : List Token) (start : ℕ) (r : Result (Parsed Expr) PartError) → 1 ≤ room
    → Reads (Calls (expression_goal (expression room 1)) (drop start ts)) expr_view ts start r → IfOk r (λ x. x.height ≡ height (expr_view x.tree)) → ReadsExpression room ts start r
of_reading room ts start (Ok x) some l high = record {
  only = only_expression room (drop start ts) (drop x.next ts) (expr_view x.tree) some l.outcome;
  high = high;
  forward = l.forward;
  within = l.within;
}
of_reading room ts start (Err (At p)) some l high = record { past = longest_expression room (drop start ts) (drop p ts) some l.outcome; forward = l.forward; within = l.within }
of_reading room ts start (Err Memory) some l high = tt

pub returns : goal.returns
returns c = of_reading c.args.room c.args.tokens.now.tokens c.args.from c.expression.result c.requires.some c.expression.ensures.reads c.expression.ensures.height
