-- The tables of words and symbols, as the code looks them up.
use Rattle.std.specs.Prelude.{ℕ, if◌then◌else◌, List, [], ◌∷◌, Option, Some, None}
use Rattle.std.specs.Str.{str_eq_ignore_ascii_case}
use Rattle.eif_grammar.specs.declared.terminal.Terminal.{Terminal}

-- what the first row says that has the word, in any letter case
abbrev pub listed_in_any_case : List (List ℕ × Terminal) → List ℕ → Option Terminal
listed_in_any_case [] word = None
listed_in_any_case (row ∷ rows) word = if str_eq_ignore_ascii_case row.0 word then Some row.1 else listed_in_any_case rows word
