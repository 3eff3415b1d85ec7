-- The tokens of a text, by cases on its suffixes.
use Rattle.std.specs.Prelude.{ℕ, zero, suc, ◌+◌, ◌-◌, if◌then◌else◌, List, [], ◌∷◌, ◌++◌, take, length, Option, Some, None, Result, Ok, Err, nat_eq}
use Rattle.std.specs.List.{starts_with}
use Rattle.eif_base.specs.declared.Place.{Place}
use Rattle.eif_grammar.specs.declared.piece.Piece.{Piece}
use Rattle.eif_grammar.specs.declared.terminal.Terminal.{Terminal}
use Rattle.eif_grammar.specs.Lexemes.{piece}
use Rattle.eif_grammar.specs.Places.{place_at}

pub record Token : Type 0 where
  pub terminal : Terminal
  pub place : Place
  pub text : List ℕ

-- the tokens of a text, and the place behind its last byte
pub record TokenList : Type 0 where
  pub tokens : List Token
  pub end : Place

-- what stands before the outcome of the rest
abbrev pub joined : List Token → Result (List Token) ℕ → Result (List Token) ℕ
joined front (Ok rest) = Ok (front ++ rest)
joined front (Err at) = Err at

-- a byte order mark at the front is a blank
abbrev pub mark_length : List ℕ → ℕ
mark_length text = if starts_with nat_eq text (239 ∷ 187 ∷ 191 ∷ []) then 3 else 0

module _ (file : ℕ) (text : List ℕ) where
  -- the token that a piece at the front of the suffix is, if it is one
  abbrev pub tokens_by : Option Terminal → ℕ → ℕ → List ℕ → List Token
  tokens_by None len at suffix = []
  tokens_by (Some x) len at suffix = record { terminal = x; place = place_at file text at; text = take len suffix } ∷ []

  abbrev pub cut_by : Option Piece → ℕ → List ℕ → (ℕ → Result (List Token) ℕ) → Result (List Token) ℕ
  cut_by None at suffix more = Err at
  cut_by (Some p) at suffix more = joined (tokens_by p.terminal p.len at suffix) (more (p.len - 1))

  -- The tokens of the suffix at that offset, or the offset at which no piece starts. The first number counts the bytes that are left of a piece.
  abbrev pub cut : ℕ → ℕ → List ℕ → Result (List Token) ℕ
  cut left at [] = Ok []
  cut (suc left) at (b ∷ bs) = cut left (at + 1) bs
  cut zero at (b ∷ bs) = cut_by (piece (b ∷ bs)) at (b ∷ bs) (λ left. cut left (at + 1) bs)

-- all tokens of the text, or the first offset at which no blank, comment or token starts
abbrev pub tokens_of : ℕ → List ℕ → Result (List Token) ℕ
tokens_of file text = cut file text (mark_length text) 0 text

abbrev pub end_of : ℕ → List ℕ → Place
end_of file text = place_at file text (length text)
