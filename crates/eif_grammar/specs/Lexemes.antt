-- What a text is cut into. Each rule gives the piece of its kind at the front of a text, if there is one.
use Rattle.std.specs.Prelude.{ℕ, zero, suc, ◌+◌, ◌-◌, ◌*◌, Bool, false, ◌||◌, ◌&&◌, not, ◌==◌, nat_lt, nat_le, if◌then◌else◌, List, [], ◌∷◌, drop, take, length, fold, Option, Some, None, unwrap_or}
use Rattle.std.specs.Option.{option_map, option_and_then}
use Rattle.std.specs.List.{starts_with}
use Rattle.std.specs.Prelude.{nat_eq}
use Rattle.std.specs.Str.{bytes_eq, str_to_ascii_lowercase}
use Rattle.eif_grammar.specs.declared.piece.Piece.{Piece}
use Rattle.eif_grammar.specs.declared.terminal.Terminal.{Terminal}
use Rattle.eif_grammar.specs.declared.terminal.Terminal.TheVariants as t
use Rattle.eif_grammar.specs.Words.{words, symbols}

abbrev pub is_letter : ℕ → Bool
is_letter b = (nat_le 65 b && nat_le b 90) || (nat_le 97 b && nat_le b 122)

abbrev pub is_digit : ℕ → Bool
is_digit b = nat_le 48 b && nat_le b 57

-- a letter, a digit or an underscore
abbrev pub in_word : ℕ → Bool
in_word b = is_letter b || is_digit b || b == 95

-- how many bytes at the front pass the test
abbrev pub run_length : (ℕ → Bool) → List ℕ → ℕ
run_length p [] = 0
run_length p (b ∷ bs) = if p b then run_length p bs + 1 else 0

-- the first byte is there and passes
abbrev pub begins : (ℕ → Bool) → List ℕ → Bool
begins p [] = false
begins p (b ∷ bs) = p b

abbrev pub gap : ℕ → Piece
gap n = record { terminal = None; len = n }

abbrev pub token : Terminal → ℕ → Piece
token x n = record { terminal = Some x; len = n }

-- ---- blanks and comments

abbrev pub is_blank : ℕ → Bool
is_blank b = b == 32 || b == 9 || b == 13 || b == 10

abbrev pub blank : List ℕ → Option Piece
blank text = if begins is_blank text then Some (gap 1) else None

abbrev pub in_comment : ℕ → Bool
in_comment b = not (b == 10)

-- `--` and all bytes up to the line feed or the end
abbrev pub comment : List ℕ → Option Piece
comment text =
    if begins (λ b. b == 45) text && begins (λ b. b == 45) (drop 1 text)
    then Some (gap (run_length in_comment (drop 2 text) + 2)) else None

-- ---- identifiers and words

abbrev pub listed : List (List ℕ × Terminal) → List ℕ → Option Terminal
listed [] word = None
listed (row ∷ rows) word = if bytes_eq row.0 word then Some row.1 else listed rows word

-- a word in any letter case, or else an identifier
abbrev pub word_terminal : List ℕ → Terminal
word_terminal word = unwrap_or (listed words (str_to_ascii_lowercase word)) t.Identifier

-- a letter, and then letters, digits and underscores
abbrev pub word : List ℕ → Option Piece
word text = if begins is_letter text then (let n = run_length in_word text in Some (token (word_terminal (take n text)) n)) else None

-- ---- numbers

abbrev mutual
  -- the digits at the front, with single underscores between digits
  pub digits_length : List ℕ → ℕ
  digits_length [] = 0
  digits_length (b ∷ bs) = if is_digit b then more_digits_length bs + 1 else 0

  -- the same after a digit
  pub more_digits_length : List ℕ → ℕ
  more_digits_length [] = 0
  more_digits_length (b ∷ bs) = if is_digit b || (b == 95 && begins is_digit bs) then more_digits_length bs + 1 else 0

-- the number that digits stand for; underscores stand for nothing
abbrev pub number_of : List ℕ → ℕ
number_of digits = fold (λ n b. if b == 95 then n else n * 10 + (b - 48)) 0 digits

abbrev pub largest_integer : ℕ
largest_integer = 9223372036854775807

-- no larger than that, and no letter or underscore follows
abbrev pub integer : List ℕ → Option Piece
integer text =
    let n = digits_length text in
    if nat_lt 0 n && nat_le (number_of (take n text)) largest_integer && not (begins in_word (drop n text))
    then Some (token t.Integer n) else None

-- how many bytes of an exponent there are: `e` or `E`, perhaps a sign, and digits
abbrev pub exponent_length : List ℕ → ℕ
exponent_length text =
    let signed = if begins (λ b. b == 43 || b == 45) (drop 1 text) then 2 else 1 in
    let n = run_length is_digit (drop signed text) in
    if begins (λ b. b == 101 || b == 69) text && nat_lt 0 n then signed + n else 0

-- digits, a dot, digits, and perhaps an exponent
abbrev pub real : List ℕ → Option Piece
real text =
    let n = run_length is_digit text in
    let m = run_length is_digit (drop (n + 1) text) in
    if nat_lt 0 n && begins (λ b. b == 46) (drop n text) && nat_lt 0 m
    then Some (token t.Real (n + 1 + m + exponent_length (drop (n + 1 + m) text))) else None

-- ---- characters and strings

-- what stands for a byte, and how many bytes it takes
pub record Escape : Type 0 where
  pub byte : ℕ
  pub len : ℕ

-- the byte that `%` and a letter or sign stand for
abbrev pub escaped : ℕ → Option ℕ
escaped c =
    if c == 78 then Some 10 else if c == 84 then Some 9 else if c == 82 then Some 13 else if c == 85 then Some 0
    else if c == 66 then Some 8 else if c == 70 then Some 12 else if c == 65 then Some 64 else if c == 67 then Some 94
    else if c == 68 then Some 36 else if c == 72 then Some 92 else if c == 76 then Some 126 else if c == 81 then Some 96
    else if c == 83 then Some 35 else if c == 86 then Some 124 else if c == 37 then Some 37 else if c == 39 then Some 39
    else if c == 34 then Some 34 else if c == 40 then Some 91 else if c == 41 then Some 93 else if c == 60 then Some 123
    else if c == 62 then Some 125 else None

-- behind `%/`: a byte in decimal, and `/`
abbrev pub numbered : List ℕ → Option Escape
numbered text =
    let n = run_length is_digit text in
    let byte = number_of (take n text) in
    if nat_lt 0 n && nat_le byte 255 && begins (λ b. b == 47) (drop n text) then Some (record { byte = byte; len = n + 3 }) else None

-- behind `%`
abbrev pub escape_by : List ℕ → Option Escape
escape_by [] = None
escape_by (c ∷ cs) = if c == 47 then numbered cs else option_map (λ byte. record { byte = byte; len = 2 }) (escaped c)

abbrev pub escape : List ℕ → Option Escape
escape text = if begins (λ b. b == 37) text then escape_by (drop 1 text) else None

abbrev pub is_plain : ℕ → Bool
is_plain b = nat_le 32 b && nat_le b 126 && not (b == 37) && not (b == 39)

-- a plain byte or an escape, as a byte and its length
abbrev pub character_item : List ℕ → Option Escape
character_item [] = None
character_item (b ∷ bs) = if is_plain b then Some (record { byte = b; len = 1 }) else escape (b ∷ bs)

-- an item between quotes
abbrev pub character : List ℕ → Option Piece
character text =
    if begins (λ b. b == 39) text
    then option_and_then (λ item. if begins (λ b. b == 39) (drop (item.len + 1) text) then Some (token t.Character (item.len + 2)) else None) (character_item (drop 1 text))
    else None

-- How many bytes there are up to and with the closing quote. The first number counts the bytes that are left of an escape.
abbrev pub quote_length : ℕ → List ℕ → Option ℕ
quote_length left [] = None
quote_length (suc left) (b ∷ bs) = option_map (λ n. n + 1) (quote_length left bs)
quote_length zero (b ∷ bs) =
    if b == 34 then Some 1
    else if b == 10 then None
    else if b == 37 then option_and_then (λ e. option_map (λ n. n + 1) (quote_length (e.len - 1) bs)) (escape (b ∷ bs))
    else option_map (λ n. n + 1) (quote_length zero bs)

abbrev pub string : List ℕ → Option Piece
string text = if begins (λ b. b == 34) text then option_map (λ n. token t.StringText (n + 1)) (quote_length 0 (drop 1 text)) else None

-- blanks, and a line feed
abbrev pub ends_line : List ℕ → Bool
ends_line [] = false
ends_line (b ∷ bs) = b == 10 || ((b == 32 || b == 9 || b == 13) && ends_line bs)

-- a rest of a line without quotes and escapes that ends in `[` or `{`
abbrev pub opens_verbatim : List ℕ → Bool
opens_verbatim [] = false
opens_verbatim (b ∷ bs) =
    ((b == 91 || b == 123) && ends_line bs) || (not (b == 34 || b == 37 || b == 10) && opens_verbatim bs)

-- takes the rest of the text
abbrev pub verbatim : List ℕ → Option Piece
verbatim text = if begins (λ b. b == 34) text && opens_verbatim (drop 1 text) then Some (token t.Verbatim (length text)) else None

-- ---- symbols, and all together

-- the longer of two pieces
abbrev pub longer : Option Piece → Option Piece → Option Piece
longer None q = q
longer (Some p) None = Some p
longer (Some p) (Some q) = if nat_lt p.len q.len then Some q else Some p

-- the longest row of the table with which the text begins
abbrev pub longest_row : List (List ℕ × Terminal) → List ℕ → Option Piece
longest_row [] text = None
longest_row (row ∷ rows) text = longer (if starts_with nat_eq text row.0 then Some (token row.1 (length row.0)) else None) (longest_row rows text)

abbrev pub symbol : List ℕ → Option Piece
symbol text = longest_row symbols text

-- the longest blank, comment or token at the front
abbrev pub piece : List ℕ → Option Piece
piece text =
    longer (blank text) (longer (comment text) (longer (word text) (longer (integer text) (longer (real text)
    (longer (character text) (longer (string text) (longer (verbatim text) (symbol text))))))))
