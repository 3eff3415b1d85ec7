-- The values of literals, by their texts.
use Rattle.std.specs.Prelude.{ℕ, zero, suc, ◌-◌, ◌==◌, if◌then◌else◌, ℤ, pos, List, [], ◌∷◌, drop}
use Rattle.std.specs.Option.{option_map_or}
use Rattle.eif_grammar.specs.Lexemes.{number_of, escape, character_item}

abbrev pub integer_value : List ℕ → ℤ
integer_value text = pos (number_of text)

-- the byte between the quotes
abbrev pub character_value : List ℕ → ℕ
character_value text = option_map_or (λ item. item.byte) (character_item (drop 1 text)) 0

-- The bytes up to the closing quote. The first number counts the bytes that are left of an escape.
abbrev pub string_items : ℕ → List ℕ → List ℕ
string_items left [] = []
string_items (suc left) (b ∷ bs) = string_items left bs
string_items zero (b ∷ bs) =
    if b == 34 then []
    else option_map_or (λ item. item.byte ∷ string_items (item.len - 1) bs) (escape (b ∷ bs)) (b ∷ string_items zero bs)

abbrev pub string_value : List ℕ → List ℕ
string_value text = string_items 0 (drop 1 text)
