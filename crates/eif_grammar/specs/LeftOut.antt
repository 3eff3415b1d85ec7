-- What this project's profile leaves out.
use Rattle.std.specs.Prelude.{ℕ, Bool, true, false, ◌||◌, ◌&&◌, if◌then◌else◌, List, [], ◌∷◌, Option, Some, None, codes}
use Rattle.std.specs.Str.{str_to_ascii_lowercase}
use Rattle.eif_grammar.specs.declared.terminal.Terminal.{Terminal}
use Rattle.eif_grammar.specs.declared.terminal.Terminal.TheVariants as t
use Rattle.eif_grammar.specs.Tokens.{Token}

-- a word, symbol or literal that is left out wherever it stands
abbrev pub is_left_out : Terminal → Bool
is_left_out t.Real = true
is_left_out t.Verbatim = true
is_left_out t.LeftOutWord = true
is_left_out t.LeftOutSymbol = true
is_left_out _ = false

-- no `{` may follow directly
abbrev pub bars_brace : Terminal → Bool
bars_brace t.Inherit = true
bars_brace t.Arrow = true
bars_brace _ = false

abbrev pub is_open_brace : Terminal → Bool
is_open_brace t.OpenBrace = true
is_open_brace _ = false

-- the first token that is left out, where a token with that terminal stands before
abbrev pub left_out_after : Terminal → List Token → Option Token
left_out_after x [] = None
left_out_after x (t ∷ ts) = if is_left_out t.terminal || (bars_brace x && is_open_brace t.terminal) then Some t else left_out_after t.terminal ts

-- the first token of the list that is left out
abbrev pub left_out : List Token → Option Token
left_out ts = left_out_after t.EndOfText ts

-- how the report names a token that is left out
abbrev pub left_out_text : Terminal → List ℕ → List ℕ
left_out_text t.Real text = codes "real"
left_out_text t.Verbatim text = codes "verbatim"
left_out_text _ text = str_to_ascii_lowercase text
