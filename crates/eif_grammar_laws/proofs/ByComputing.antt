-- Tokens and readings that are found by computing them.
use Rattle.std.proofs.Common.{◌≡◌, ℕ, List, [], Result, Ok, Err}
use Rattle.eif_grammar.specs.Tokens.{Token, tokens_of}
use Rattle.eif_grammar.specs.Goals.{Goal, Found}
use Rattle.eif_grammar.specs.Outcomes.{got, refused, reached, Calls}

-- the tokens of a text that has some
abbrev pub tokens_in : List ℕ → List Token
tokens_in text = found (tokens_of 0 text)
  where
    found : Result (List Token) ℕ → List Token
    found (Ok tokens) = tokens
    found (Err at) = []

-- the outcome of calls that are nested no deeper than that
pub got_within : (depth : ℕ) (g : Goal) (tokens rest : List Token) (x : Found g) → reached depth g tokens ≡ got x rest → Calls g tokens (got x rest)
got_within depth g tokens rest x e = record { depth = depth; runs = e; ends = λ e'. cc }

pub refused_within : (depth : ℕ) (g : Goal) (tokens left : List Token) → reached depth g tokens ≡ refused left → Calls g tokens (refused left)
refused_within depth g tokens left e = record { depth = depth; runs = e; ends = λ e'. cc }
