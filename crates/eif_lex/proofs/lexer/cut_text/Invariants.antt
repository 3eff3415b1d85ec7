use Rattle.std.proofs.Common.{◌≡◌, ◌+◌, ◌-◌, ◌≤◌, drop, take, length, map}
use Rattle.std.specs.List.{All}
use Rattle.eif_grammar.specs.Places.{behind}
use Rattle.eif_grammar.specs.Tokens.{joined, cut, tokens_of}
use Rattle.eif_lex.specs.Spots.{token_at, IsSmall}
use Rattle.eif_lex.proofs.lexer.cut_text.Given as goal

-- the tokens so far and those of what is left are those of the text
abbrev pub invariant-pieces : goal.invariant-pieces
invariant-pieces l = record {
  within : l.at ≤ length l.text;
  place : (l.line, l.column) ≡ behind (take l.at l.text);
  line : l.line ≤ l.at + 1;
  column : l.column ≤ l.at + 1;
  cuts : joined (map (token_at l.text) l.spots.items) (cut l.file l.text 0 l.at (drop l.at l.text)) ≡ tokens_of l.file l.text;
  spots_within : All (λ s. s.place.offset + s.len ≤ length l.text) l.spots.items;
  small : All (λ s. IsSmall (token_at l.text s)) l.spots.items;
  few : length l.spots.items ≤ l.at;
}

abbrev pub decreases-pieces : goal.decreases-pieces
decreases-pieces l = length l.text - l.at
