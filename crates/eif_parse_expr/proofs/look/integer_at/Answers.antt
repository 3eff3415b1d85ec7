use Rattle.std.proofs.Common.{◌≡◌, drop, arith}
use mir.Facts.{to_z-of_z}
use Rattle.eif_grammar.specs.Literals.{integer_value}
use Rattle.eif_parse_expr.specs.Readings.{first}
use Rattle.eif_parse_expr.proofs.Tokens.{seen_here}
use Rattle.eif_parse_expr.proofs.look.integer_at.Goals as goal

pub returns : goal.returns
returns c =
    let ts = c.args.tokens.now.tokens in
    let value : c.integer.result ≡ integer_value (first (drop c.args.at ts)).text = seen_here (λ t. integer_value t.text) ts c.args.at c.integer.result (λ e. cc) c.integer.ensures in
    grind (arith, to_z-of_z, value)
