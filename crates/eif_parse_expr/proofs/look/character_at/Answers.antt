use Rattle.std.proofs.Common.{◌∙◌, ap}
use Rattle.eif_grammar.specs.Literals.{character_value}
use Rattle.eif_parse_expr.proofs.Tokens.{seen_here}
use Rattle.eif_parse_expr.proofs.look.character_at.Goals as goal

pub returns : goal.returns
returns c =
    c.character_value.ensures ∙ ap character_value (seen_here (λ t. t.text) c.args.tokens.now.tokens c.args.at c.text.result.now c.requires c.text.ensures)
