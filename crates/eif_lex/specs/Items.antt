-- The items of literals, as the code has them.
use Rattle.std.specs.Prelude.{ℕ, ◌==◌, if◌then◌else◌, List, [], ◌∷◌, Option, Some, None, unwrap_or}
use Rattle.std.specs.Option.{option_map}
use Rattle.eif_grammar.specs.Lexemes.{Escape, escape}
use Rattle.eif_lex.specs.declared.quotes.Item.{Item}

abbrev pub escape_of : Item → Escape
escape_of item = record { byte = item.byte; len = item.len }

-- how many bytes the item of a string at the front has, where a string goes on
abbrev pub string_item : List ℕ → Option ℕ
string_item [] = None
string_item (b ∷ bs) =
    if b == 34 then None
    else if b == 10 then None
    else if b == 37 then option_map (λ e. e.len) (escape (b ∷ bs))
    else Some 1

-- the item of a string at the front, where the string's value goes on
abbrev pub value_item : List ℕ → Option Escape
value_item [] = None
value_item (b ∷ bs) = if b == 34 then None else Some (unwrap_or (escape (b ∷ bs)) (record { byte = b; len = 1 }))
