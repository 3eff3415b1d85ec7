-- No token that is an identifier is written `result`, in whatever letter case.
use Rattle.std.proofs.Common.{◌≡◌, ℕ, zero, suc, ◌+◌, ◌-◌, ◌==◌, Bool, true, false, ◌&&◌, not, if◌then◌else◌, nat_lt, List, [], ◌∷◌, ◌++◌, Option, Some, None, IfSome, Result, Ok, Err, unwrap_or, length, take, drop, subst, refl, ap, sym, ◌∙◌, nat_eq}
use Rattle.std.specs.Option.{option_map, option_and_then}
use Rattle.std.specs.List.{starts_with}
use Rattle.std.specs.Str.{bytes_eq, str_to_ascii_lowercase}
use Rattle.std.proofs.lemmas.Slice.Eq.{bytes_eq-Decides}
use Rattle.eif_tree.specs.Members.{result_name}
use Rattle.eif_grammar.specs.declared.piece.Piece.{Piece}
use Rattle.eif_grammar.specs.declared.terminal.Terminal.{Terminal}
use Rattle.eif_grammar.specs.declared.terminal.Terminal.TheVariants as t
use Rattle.eif_grammar.specs.Lexemes as lexeme
use Rattle.eif_grammar.specs.Lexemes.{Escape, gap, token, begins, in_word, number_of, largest_integer, digits_length, listed, longer, longest_row, is_digit, run_length, exponent_length, opens_verbatim, quote_length, character_item, word_terminal}
use Rattle.eif_grammar.specs.Words.{words, symbols}
use Rattle.eif_grammar.specs.Tokens.{Token, joined, tokens_by, cut_by, cut, tokens_of, mark_length}
use Rattle.eif_spelled_laws.proofs.Tests.{some_same, and_parts, not_true}

abbrev pub IsCut : Token → Type 0
IsCut w = w.terminal ≡ t.Identifier → bytes_eq (str_to_ascii_lowercase w.text) result_name ≡ false

abbrev pub AreCut : List Token → Type 0
AreCut [] = Unit {0}
AreCut (w ∷ ws) = IsCut w × AreCut ws

-- ---- one piece

-- the piece at the front of that text, if it is an identifier
abbrev IsCutFrom : List ℕ → Piece → Type 0
IsCutFrom ts p = p.terminal ≡ Some t.Identifier → bytes_eq (str_to_ascii_lowercase (take p.len ts)) result_name ≡ false

either : (P : Piece → Type 0) (b : Bool) (p q : Piece) → P p → P q → IfSome (if b then Some q else Some p) P
either P true p q hp hq = hq
either P false p q hp hq = hp

longer_keeps : (P : Piece → Type 0) (p q : Option Piece) → IfSome p P → IfSome q P → IfSome (longer p q) P
longer_keeps P None q hp hq = hq
longer_keeps P (Some p) None hp hq = hp
longer_keeps P (Some p) (Some q) hp hq = either P (nat_lt p.len q.len) p q hp hq

abbrev is_name : Option Terminal → Bool
is_name (Some t.Identifier) = true
is_name _ = false

other : (ts : List ℕ) (p : Piece) → is_name p.terminal ≡ false → IsCutFrom ts p
other ts p e same = let clash : true ≡ false = sym (ap is_name same) ∙ e in cc

other_if : (ts : List ℕ) (b : Bool) (p : Piece) → is_name p.terminal ≡ false
    → IfSome (if b then Some p else None) (IsCutFrom ts)
other_if ts true p e = other ts p e
other_if ts false p e = tt

in_if : (ts : List ℕ) (b : Bool) (o : Option Piece) → IfSome o (IsCutFrom ts)
    → IfSome (if b then o else None) (IsCutFrom ts)
in_if ts true o h = h
in_if ts false o h = tt

-- no row is an identifier
abbrev no_name : List (List ℕ × Terminal) → Bool
no_name [] = true
no_name (row ∷ rows) = not (is_name (Some row.1)) && no_name rows

rows_cut : (ts : List ℕ) (rows : List (List ℕ × Terminal)) → no_name rows ≡ true
    → IfSome (longest_row rows ts) (IsCutFrom ts)
rows_cut ts [] e = tt
rows_cut ts (row ∷ rows) e =
    let parts = and_parts (not (is_name (Some row.1))) (no_name rows) e in
    longer_keeps (IsCutFrom ts)
    (if starts_with nat_eq ts row.0 then Some (token row.1 (length row.0)) else None) (longest_row rows ts)
    (other_if ts (starts_with nat_eq ts row.0) (token row.1 (length row.0)) (not_true (is_name (Some row.1)) parts.0))
    (rows_cut ts rows parts.1)

-- `result` is listed among the words
no_result : (l : List ℕ) (b : Bool) → b ≡ bytes_eq l result_name
    → unwrap_or (listed words l) t.Identifier ≡ t.Identifier → b ≡ false
no_result l true e same =
    let here : l ≡ result_name = (bytes_eq-Decides l result_name).0 (sym e) in
    let clash : t.Result ≡ t.Identifier =
    sym (ap (λ l. unwrap_or (listed words l) t.Identifier) here) ∙ same in
    cc
no_result l false e same = refl

word_by : (ts : List ℕ) (n : ℕ) (b : Bool)
    → IfSome (if b then Some (token (word_terminal (take n ts)) n) else None) (IsCutFrom ts)
word_by ts n true = λ same.
    let low = str_to_ascii_lowercase (take n ts) in
    no_result low (bytes_eq low result_name) refl (some_same same)
word_by ts n false = tt

character_by : (ts : List ℕ) (o : Option Escape) (b : Escape → Bool)
    → IfSome (option_and_then (λ e. if b e then Some (token t.Character (e.len + 2)) else None) o) (IsCutFrom ts)
character_by ts None b = tt
character_by ts (Some e) b = other_if ts (b e) (token t.Character (e.len + 2)) refl

string_by : (ts : List ℕ) (o : Option ℕ) → IfSome (option_map (λ n. token t.StringText (n + 1)) o) (IsCutFrom ts)
string_by ts None = tt
string_by ts (Some n) = other ts (token t.StringText (n + 1)) refl

word_cut : (ts : List ℕ) → IfSome (lexeme.word ts) (IsCutFrom ts)
word_cut ts = word_by ts (run_length in_word ts) (begins lexeme.is_letter ts)

character_cut : (ts : List ℕ) → IfSome (lexeme.character ts) (IsCutFrom ts)
character_cut ts = in_if ts (begins (λ b. b == 39) ts) _ (character_by ts (character_item (drop 1 ts)) _)

string_cut : (ts : List ℕ) → IfSome (lexeme.string ts) (IsCutFrom ts)
string_cut ts = in_if ts (begins (λ b. b == 34) ts) _ (string_by ts (quote_length 0 (drop 1 ts)))

piece_cut : (ts : List ℕ) → IfSome (lexeme.piece ts) (IsCutFrom ts)
piece_cut ts =
    let P = IsCutFrom ts in
    longer_keeps P (lexeme.blank ts) _ (other_if ts _ _ refl)
    (longer_keeps P (lexeme.comment ts) _ (other_if ts _ _ refl)
    (longer_keeps P (lexeme.word ts) _ (word_cut ts)
    (longer_keeps P (lexeme.integer ts) _ (other_if ts _ _ refl)
    (longer_keeps P (lexeme.real ts) _ (other_if ts _ _ refl)
    (longer_keeps P (lexeme.character ts) _ (character_cut ts)
    (longer_keeps P (lexeme.string ts) _ (string_cut ts)
    (longer_keeps P (lexeme.verbatim ts) (lexeme.symbol ts) (other_if ts _ _ refl) (rows_cut ts symbols refl))))))))

-- ---- all tokens

ok_same : {a b : List Token} → ◌≡◌ {A = Result (List Token) ℕ} (Ok a) (Ok b) → a ≡ b
ok_same e = cc

module _ (file : ℕ) (text : List ℕ) where
  by_terminal : (at n : ℕ) (suffix : List ℕ) (x : Option Terminal) (rest : List Token)
      → IsCutFrom suffix (record { terminal = x; len = n }) → AreCut rest
      → AreCut (tokens_by file text x n at suffix ++ rest)
  by_terminal at n suffix None rest h more = more
  by_terminal at n suffix (Some x) rest h more = (λ e. h (ap Some e), more)

  by_rest : (at n : ℕ) (suffix : List ℕ) (x : Option Terminal) (r : Result (List Token) ℕ) (ts : List Token)
      → IsCutFrom suffix (record { terminal = x; len = n }) → ((rest : List Token) → r ≡ Ok rest → AreCut rest)
      → joined (tokens_by file text x n at suffix) r ≡ Ok ts → AreCut ts
  by_rest at n suffix x (Ok rest) ts h more is =
      subst AreCut (ok_same is) (by_terminal at n suffix x rest h (more rest refl))
  by_rest at n suffix x (Err k) ts h more is = cc

  by_piece : (at : ℕ) (suffix : List ℕ) (o : Option Piece) (rest_by : ℕ → Result (List Token) ℕ) (ts : List Token)
      → IfSome o (IsCutFrom suffix) → ((left : ℕ) (rest : List Token) → rest_by left ≡ Ok rest → AreCut rest)
      → cut_by file text o at suffix rest_by ≡ Ok ts → AreCut ts
  by_piece at suffix None rest_by ts h more is = cc
  by_piece at suffix (Some p) rest_by ts h more is =
      by_rest at p.len suffix p.terminal (rest_by (p.len - 1)) ts h (more (p.len - 1)) is

  cut_tokens : (left at : ℕ) (suffix : List ℕ) (ts : List Token) → cut file text left at suffix ≡ Ok ts → AreCut ts
  cut_tokens left at [] ts is = subst AreCut (ok_same is) tt
  cut_tokens (suc left) at (b ∷ bs) ts is = cut_tokens left (at + 1) bs ts is
  cut_tokens zero at (b ∷ bs) ts is =
      by_piece at (b ∷ bs) (lexeme.piece (b ∷ bs)) (λ left. cut file text left (at + 1) bs) ts (piece_cut (b ∷ bs))
      (λ left rest h. cut_tokens left (at + 1) bs rest h) is

  pub tokens_are_cut : (ts : List Token) → tokens_of file text ≡ Ok ts → AreCut ts
  tokens_are_cut ts is = cut_tokens (mark_length text) 0 text ts is
