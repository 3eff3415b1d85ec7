-- What `lex` ensures.
use Rattle.std.specs.Prelude.{◌≡◌, ℕ, ◌+◌, ◌≤◌, List, [], ◌∷◌, map, take, drop, length, Result, Ok, Err}
use Rattle.std.specs.List.{All}
use Rattle.eif_grammar.specs.Places.{place_at}
use Rattle.eif_grammar.specs.Tokens.{Token, TokenList, tokens_of, end_of}
use Rattle.eif_lex.specs.declared.lexer.Cut.{Cut}
use Rattle.eif_lex.specs.declared.lexer.LexError.{LexError}
use Rattle.eif_lex.specs.declared.lexer.LexError.TheVariants.{At, Memory}
use Rattle.eif_lex.specs.Spots.{token_at}

abbrev pub Lexes : ℕ → List ℕ → Result TokenList LexError → Type 0
-- these are the tokens of the text, and its end
Lexes file text (Ok list) = (tokens_of file text ≡ Ok list.tokens) × (list.end ≡ end_of file text)
-- there at first no blank, comment or token starts
Lexes file text (Err (At p)) = (tokens_of file text ≡ Err p.offset) × (p ≡ place_at file text p.offset)
Lexes file text (Err Memory) = Unit {0}

-- the text of each token is what stands at its place
abbrev pub AreSlices : List ℕ → List Token → Type 0
AreSlices text tokens = All (λ t. t.text ≡ take (length t.text) (drop t.place.offset text)) tokens

-- the first token begins at that offset or behind it, and each later one at the end of the one before it or behind it
abbrev pub AreInOrderFrom : ℕ → List Token → Type 0
AreInOrderFrom at [] = Unit {0}
AreInOrderFrom at (t ∷ ts) = (at ≤ t.place.offset) × AreInOrderFrom (t.place.offset + length t.text) ts

abbrev pub AreInOrder : List Token → Type 0
AreInOrder tokens = AreInOrderFrom 0 tokens

-- the tokens of spots
abbrev pub tokens_in : List ℕ → Result Cut LexError → Result TokenList LexError
tokens_in text (Ok cut) = Ok (record { tokens = map (token_at text) cut.spots.items; end = cut.end })
tokens_in text (Err e) = Err e
