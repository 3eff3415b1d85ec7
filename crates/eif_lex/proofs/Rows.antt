-- Looking words up in any letter case.
use Rattle.std.proofs.Common.{◌≡◌, ℕ, Bool, true, ◌&&◌, if◌then◌else◌, List, [], ◌∷◌, Some, refl, ap, ◌∙◌}
use Rattle.std.specs.Str.{bytes_eq, str_to_ascii_lowercase}
use Rattle.std.proofs.lemmas.Slice.Eq.{bytes_eq-Decides}
use Rattle.eif_grammar.specs.declared.terminal.Terminal.{Terminal}
use Rattle.eif_grammar.specs.Lexemes.{listed}
use Rattle.eif_grammar.specs.Words.{words}
use Rattle.eif_lex.specs.Rows.{listed_in_any_case}
use Rattle.eif_lex.proofs.Longer.{and_parts}

-- each word of the table is in lower case
abbrev pub are_lower : List (List ℕ × Terminal) → Bool
are_lower [] = true
are_lower (row ∷ rows) = bytes_eq (str_to_ascii_lowercase row.0) row.0 && are_lower rows

pub listed-in_any_case : (rows : List (List ℕ × Terminal)) (word : List ℕ) → are_lower rows ≡ true → listed_in_any_case rows word ≡ listed rows (str_to_ascii_lowercase word)
listed-in_any_case [] word e = refl
listed-in_any_case (row ∷ rows) word e =
    let parts = and_parts (bytes_eq (str_to_ascii_lowercase row.0) row.0) (are_lower rows) e in
    let low : str_to_ascii_lowercase row.0 ≡ row.0 = (bytes_eq-Decides (str_to_ascii_lowercase row.0) row.0).0 parts.0 in
    let rest = listed-in_any_case rows word parts.1 in
    ap (λ k. if bytes_eq k (str_to_ascii_lowercase word) then Some row.1 else listed_in_any_case rows word) low
    ∙ ap (λ o. if bytes_eq row.0 (str_to_ascii_lowercase word) then Some row.1 else o) rest

pub words-lower : are_lower words ≡ true
words-lower = refl

pub listed-words : (word : List ℕ) → listed_in_any_case words word ≡ listed words (str_to_ascii_lowercase word)
listed-words word = listed-in_any_case words word refl

pub ruleset word_laws = (listed-words)
