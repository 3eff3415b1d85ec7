use Rattle.eif_parse_expr.proofs.Tokens.{seen_here}
use Rattle.eif_parse_expr.proofs.look.place_at.Goals as goal

pub returns : goal.returns
returns c = seen_here (λ t. t.place) c.args.tokens.now.tokens c.args.at c.place.result c.requires c.place.ensures
