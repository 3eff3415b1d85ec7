-- No integer literal is too large.
use Rattle.std.proofs.Common.{◌≡◌, ℕ, ◌+◌, ◌==◌, ◌≤◌, Bool, true, false, ◌&&◌, not, if◌then◌else◌, nat_lt, nat_le, List, [], ◌∷◌, Option, Some, None, IfSome, unwrap_or, length, take, drop, refl, ap, sym, ◌∙◌, nat_eq}
use Rattle.std.specs.Option.{option_map, option_and_then}
use Rattle.std.specs.List.{starts_with}
use Rattle.std.specs.Str.{bytes_eq, str_to_ascii_lowercase}
use Rattle.std.proofs.lemmas.Bool.{leb-true}
use Rattle.eif_grammar.specs.declared.piece.Piece.{Piece}
use Rattle.eif_grammar.specs.declared.terminal.Terminal.{Terminal}
use Rattle.eif_grammar.specs.declared.terminal.Terminal.TheVariants as t
use Rattle.eif_grammar.specs.Lexemes as lexeme
use Rattle.eif_grammar.specs.Lexemes.{Escape, gap, token, begins, in_word, number_of, largest_integer, digits_length, listed, longest_row, is_digit, run_length, exponent_length, opens_verbatim, quote_length, character_item, word_terminal}
use Rattle.eif_grammar.specs.Words.{words, symbols}
use Rattle.eif_lex.proofs.Longer.{longer-keeps, and_parts}

abbrev is_integer : Terminal → Bool
is_integer t.Integer = true
is_integer _ = false

abbrev is_integer_piece : Option Terminal → Bool
is_integer_piece None = false
is_integer_piece (Some x) = is_integer x

-- an integer of that text is small
abbrev pub IsSmallIn : List ℕ → Piece → Type 0
IsSmallIn ts p = p.terminal ≡ Some t.Integer → number_of (take p.len ts) ≤ largest_integer

other : (ts : List ℕ) (p : Piece) → is_integer_piece p.terminal ≡ false → IsSmallIn ts p
other ts p e same = let clash : true ≡ false = sym (ap is_integer_piece same) ∙ e in cc

other_if : (ts : List ℕ) (b : Bool) (p : Piece) → is_integer_piece p.terminal ≡ false → IfSome (if b then Some p else None) (IsSmallIn ts)
other_if ts true p e = other ts p e
other_if ts false p e = tt

in_if : (ts : List ℕ) (b : Bool) (o : Option Piece) → IfSome o (IsSmallIn ts) → IfSome (if b then o else None) (IsSmallIn ts)
in_if ts true o h = h
in_if ts false o h = tt

-- no row is an integer
abbrev no_integer : List (List ℕ × Terminal) → Bool
no_integer [] = true
no_integer (row ∷ rows) = not (is_integer row.1) && no_integer rows

not_true : (b : Bool) → not b ≡ true → b ≡ false
not_true true e = cc
not_true false e = refl

listed_by : (rows : List (List ℕ × Terminal)) (w : List ℕ) (b : Bool) (x : Terminal) → is_integer x ≡ false → is_integer (unwrap_or (listed rows w) t.Identifier) ≡ false
    → is_integer (unwrap_or (if b then Some x else listed rows w) t.Identifier) ≡ false
listed_by rows w true x e rest = e
listed_by rows w false x e rest = rest

listed_no_integer : (rows : List (List ℕ × Terminal)) (w : List ℕ) → no_integer rows ≡ true → is_integer (unwrap_or (listed rows w) t.Identifier) ≡ false
listed_no_integer [] w e = refl
listed_no_integer (row ∷ rows) w e =
    let parts = and_parts (not (is_integer row.1)) (no_integer rows) e in
    listed_by rows w (bytes_eq row.0 w) row.1 (not_true (is_integer row.1) parts.0) (listed_no_integer rows w parts.1)

row_no_integer : (ts : List ℕ) (rows : List (List ℕ × Terminal)) (text : List ℕ) → no_integer rows ≡ true → IfSome (longest_row rows text) (IsSmallIn ts)
row_no_integer ts [] text e = tt
row_no_integer ts (row ∷ rows) text e =
    let parts = and_parts (not (is_integer row.1)) (no_integer rows) e in
    longer-keeps (IsSmallIn ts) (if starts_with nat_eq text row.0 then Some (token row.1 (length row.0)) else None) (longest_row rows text)
    (other_if ts (starts_with nat_eq text row.0) (token row.1 (length row.0)) (not_true (is_integer row.1) parts.0))
    (row_no_integer ts rows text parts.1)

word_small : (ts : List ℕ) → IfSome (lexeme.word ts) (IsSmallIn ts)
word_small ts =
    let n = run_length in_word ts in
    other_if ts (begins lexeme.is_letter ts) (token (word_terminal (take n ts)) n) (listed_no_integer words (str_to_ascii_lowercase (take n ts)) refl)

middle : (a b d : Bool) → (a && b && d) ≡ true → b ≡ true
middle a b d e = (and_parts a b (and_parts (a && b) d e).0).1

integer_by : (ts : List ℕ) (n : ℕ) (b : Bool) → (b ≡ true → number_of (take n ts) ≤ largest_integer) → IfSome (if b then Some (token t.Integer n) else None) (IsSmallIn ts)
integer_by ts n true h = λ same. h refl
integer_by ts n false h = tt

integer_small : (ts : List ℕ) → IfSome (lexeme.integer ts) (IsSmallIn ts)
integer_small ts =
    let n = digits_length ts in
    let a = nat_lt 0 n in let b = nat_le (number_of (take n ts)) largest_integer in let d = not (begins in_word (drop n ts)) in
    integer_by ts n (a && b && d) (λ (e : (a && b && d) ≡ true). leb-true (number_of (take n ts)) largest_integer (middle a b d e))

character_small : (ts : List ℕ) (o : Option Escape)
    → IfSome (option_and_then (λ (item : Escape). if begins (λ b. b == 39) (drop (item.len + 1) ts) then Some (token t.Character (item.len + 2)) else None) o) (IsSmallIn ts)
character_small ts None = tt
character_small ts (Some item) = other_if ts (begins (λ b. b == 39) (drop (item.len + 1) ts)) (token t.Character (item.len + 2)) refl

string_small : (ts : List ℕ) (o : Option ℕ) → IfSome (option_map (λ n. token t.StringText (n + 1)) o) (IsSmallIn ts)
string_small ts None = tt
string_small ts (Some n) = other ts (token t.StringText (n + 1)) refl

pub piece_small : (ts : List ℕ) → IfSome (lexeme.piece ts) (IsSmallIn ts)
piece_small ts =
    let P = IsSmallIn ts in
    let blank = other_if ts (begins lexeme.is_blank ts) (gap 1) refl in
    let comment = other_if ts (begins (λ b. b == 45) ts && begins (λ b. b == 45) (drop 1 ts)) (gap (run_length lexeme.in_comment (drop 2 ts) + 2)) refl in
    let n = run_length is_digit ts in let m = run_length is_digit (drop (n + 1) ts) in
    let real = other_if ts (nat_lt 0 n && begins (λ b. b == 46) (drop n ts) && nat_lt 0 m) (token t.Real (n + 1 + m + exponent_length (drop (n + 1 + m) ts))) refl in
    let character = in_if ts (begins (λ b. b == 39) ts) (option_and_then (λ (item : Escape). if begins (λ b. b == 39) (drop (item.len + 1) ts) then Some (token t.Character (item.len + 2)) else None) (character_item (drop 1 ts))) (character_small ts (character_item (drop 1 ts))) in
    let string = in_if ts (begins (λ b. b == 34) ts) (option_map (λ n. token t.StringText (n + 1)) (quote_length 0 (drop 1 ts))) (string_small ts (quote_length 0 (drop 1 ts))) in
    let verbatim = other_if ts (begins (λ b. b == 34) ts && opens_verbatim (drop 1 ts)) (token t.Verbatim (length ts)) refl in
    longer-keeps P (lexeme.blank ts) _ blank
    (longer-keeps P (lexeme.comment ts) _ comment
    (longer-keeps P (lexeme.word ts) _ (word_small ts)
    (longer-keeps P (lexeme.integer ts) _ (integer_small ts)
    (longer-keeps P (lexeme.real ts) _ real
    (longer-keeps P (lexeme.character ts) _ character
    (longer-keeps P (lexeme.string ts) _ string
    (longer-keeps P (lexeme.verbatim ts) (lexeme.symbol ts) verbatim (row_no_integer ts symbols ts refl))))))))
