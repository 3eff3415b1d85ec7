use Rattle.std.proofs.Common.{◌≡◌, ℕ, ◌≤◌, List, drop, Result, Ok, Err, IfOk}
use Rattle.eif_tree.specs.declared.TypeTree.{TypeTree}
use Rattle.eif_tree.specs.View.{type_view}
use Rattle.eif_tree.specs.Height.{type_height}
use Rattle.eif_grammar.specs.Tokens.{Token}
use Rattle.eif_grammar.specs.Goals.{written, type_goal}
use Rattle.eif_grammar.specs.Outcomes.{Calls}
use Rattle.eif_grammar_laws.proofs.TypeLaws.{only_type}
use Rattle.eif_grammar_laws.proofs.FrontLaws.{longest_type}
use Rattle.eif_parse_expr.specs.declared.parsed.PartError.{PartError}
use Rattle.eif_parse_expr.specs.declared.parsed.PartError.TheVariants.{At, Memory}
use Rattle.eif_parse_expr.specs.declared.parsed.Parsed.{Parsed}
use Rattle.eif_parse_expr.specs.Readings.{Reads}
use Rattle.eif_parse_expr.specs.ReadParts.{ReadsType}
use Rattle.eif_parse_expr.proofs.part.parse_type.Goals as goal

of_reading : (room : ℕ) (ts : List Token) (start : ℕ) (r : Result (Parsed TypeTree) PartError) → 1 ≤ room
    → Reads (Calls (type_goal (written room)) (drop start ts)) type_view ts start r → IfOk r (λ x. x.height ≡ type_height (type_view x.tree)) → ReadsType room ts start r
of_reading room ts start (Ok x) some l high = record {
  only = only_type room (drop start ts) (drop x.next ts) (type_view x.tree) some l.outcome;
  high = high;
  forward = l.forward;
  within = l.within;
}
of_reading room ts start (Err (At p)) some l high = record { past = longest_type room (drop start ts) (drop p ts) some l.outcome; forward = l.forward; within = l.within }
of_reading room ts start (Err Memory) some l high = tt

pub returns : goal.returns
returns c = of_reading c.args.room c.args.tokens.now.tokens c.args.from c.written_type.result c.requires.some c.written_type.ensures.reads c.written_type.ensures.height
