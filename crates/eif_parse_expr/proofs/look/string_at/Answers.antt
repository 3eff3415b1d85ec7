use Rattle.std.proofs.Common.{◌≡◌, IfOk, subst}
use Rattle.eif_grammar.specs.Literals.{string_value}
use Rattle.eif_parse_expr.proofs.Tokens.{seen_here}
use Rattle.eif_parse_expr.proofs.look.string_at.Goals as goal

pub returns : goal.returns
returns c =
    subst (λ text. IfOk c.string_value.result (λ b. b ≡ string_value text)) (seen_here (λ t. t.text) c.args.tokens.now.tokens c.args.at c.text.result.now c.requires c.text.ensures)
    c.string_value.ensures
