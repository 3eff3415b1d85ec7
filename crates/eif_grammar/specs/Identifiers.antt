-- Texts that are one identifier.
use Rattle.std.specs.Prelude.{ℕ, Bool, true, false, ◌&&◌, ◌==◌, List, length, Option, Some}
use Rattle.std.specs.Option.{option_map_or}
use Rattle.eif_grammar.specs.declared.terminal.Terminal.{Terminal}
use Rattle.eif_grammar.specs.declared.terminal.Terminal.TheVariants as t
use Rattle.eif_grammar.specs.Lexemes.{word}

abbrev pub is_identifier_terminal : Option Terminal → Bool
is_identifier_terminal (Some t.Identifier) = true
is_identifier_terminal _ = false

-- the whole text is an identifier, and so no word of the language
abbrev pub is_identifier : List ℕ → Bool
is_identifier text = option_map_or (λ p. is_identifier_terminal p.terminal && p.len == length text) (word text) false
