use Rattle.std.proofs.Common.{◌≡◌, ◌+◌, ◌-◌, ◌<◌, length, drop, ap, arith}
use Rattle.std.proofs.lemmas.List.{length-map}
use Rattle.eif_grammar.specs.Tokens.{TokenList}
use Rattle.eif_grammar.specs.declared.terminal.Terminal.TheVariants.{Integer}
use Rattle.eif_grammar.specs.Spelling.{head}
use Rattle.eif_lex.specs.Spots.{token_at}
use Rattle.eif_lex.proofs.Lists.{small_at}
use Rattle.eif_lex.proofs.tokens.Tokens.slice.Goals as goal

pub returns-clause-small : goal.returns-clause-small
returns-clause-small c =
    let self = c.self.inside in let s = c.index-spot.result.now in let text = self.text.now in
    let view = ap (λ (l : TokenList). l.tokens) c.self.view_is in
    let within : c.args.i < length self.spots.items = omega (arith, c.requires, ap length view, length-map self.spots.items (token_at text)) in
    let width : s.place.offset + s.len - s.place.offset ≡ s.len = omega arith in
    λ (e : head (drop c.args.i c.args.self.now.tokens) ≡ Integer).
    rw width (small_at text self.spots.items c.args.self.now.tokens c.args.i s c.self.invariant.small within c.index-spot.ensures view e)
