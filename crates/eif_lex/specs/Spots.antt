-- What a token's spot in a text stands for.
use Rattle.std.specs.Prelude.{◌≡◌, ℕ, ◌+◌, ◌<◌, ◌≤◌, List, [], ◌∷◌, length, take, drop, Option, Some, None}
use Rattle.std.specs.List.{All}
use Rattle.eif_base.specs.declared.place.Place.{Place}
use Rattle.eif_grammar.specs.declared.terminal.Terminal.{Terminal}
use Rattle.eif_grammar.specs.declared.terminal.Terminal.TheVariants.{Integer}
use Rattle.eif_grammar.specs.Lexemes.{number_of, largest_integer}
use Rattle.eif_grammar.specs.Tokens.{Token}
use Rattle.eif_lex.specs.declared.spot.Spot.{Spot}

abbrev pub token_at : List ℕ → Spot → Token
token_at text spot = record { terminal = spot.terminal; place = spot.place; text = take spot.len (drop spot.place.offset text) }

-- the spot of a piece, if it is a token
abbrev pub spots_of : Option Terminal → Place → ℕ → List Spot
spots_of None place len = []
spots_of (Some x) place len = record { terminal = x; place = place; len = len } ∷ []

-- no integer literal is too large
abbrev pub IsSmall : Token → Type 0
IsSmall t = t.terminal ≡ Integer → number_of t.text ≤ largest_integer

pub record AreSpots (text : List ℕ) (spots : List Spot) : Type 0 where
  pub within : All (λ s. s.place.offset + s.len ≤ length text) spots
  pub small : All (λ s. IsSmall (token_at text s)) spots
  pub few : length spots < 4294967296
