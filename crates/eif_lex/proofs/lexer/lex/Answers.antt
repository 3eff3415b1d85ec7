use Rattle.std.proofs.Common.{map}
use Rattle.eif_grammar.specs.Tokens.{TokenList}
use Rattle.eif_lex.specs.Spots.{token_at}
use Rattle.eif_lex.proofs.Cuts.{tokens_of-same, tokens_of-slices, tokens_of-in_order}
use Rattle.eif_lex.proofs.lexer.lex.Goals as goal

pub returns-in-Ok-clause-slices : goal.returns-in-Ok-clause-slices
returns-in-Ok-clause-slices c =
    let file = c.args.file in let text = c.args.text.now in let list = c.new.result in
    let made : TokenList = record { tokens = map (token_at text) c.in-Ok.cut.spots.items; end = c.in-Ok.cut.end } in
    tokens_of-slices file text list.tokens (tokens_of-same file text list made c.new.ensures c.in-Ok.ensures.exact.0)

pub returns-in-Ok-clause-in_order : goal.returns-in-Ok-clause-in_order
returns-in-Ok-clause-in_order c =
    let file = c.args.file in let text = c.args.text.now in let list = c.new.result in
    let made : TokenList = record { tokens = map (token_at text) c.in-Ok.cut.spots.items; end = c.in-Ok.cut.end } in
    tokens_of-in_order file text list.tokens (tokens_of-same file text list made c.new.ensures c.in-Ok.ensures.exact.0)
