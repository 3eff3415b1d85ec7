use Rattle.std.proofs.Common.{◌∙◌, ap, refl}
use Rattle.std.specs.Str.{str_to_ascii_lowercase}
use Rattle.eif_parse_expr.proofs.Tokens.{seen_here}
use Rattle.eif_parse_expr.proofs.look.name_at.Goals as goal

pub returns : goal.returns
returns c =
    let ts = c.args.tokens.now.tokens in let at = c.args.at in
    let place = seen_here (λ t. t.place) ts at c.place.result c.requires c.place.ensures in
    let name = c.in_ok-from_bytes.ensures ∙ ap str_to_ascii_lowercase (seen_here (λ t. t.text) ts at c.text.result.now c.requires c.text.ensures) in
    rw (place, name) refl
