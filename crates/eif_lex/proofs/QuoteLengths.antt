-- Lengths of quoted texts.
use Rattle.std.proofs.Common.{◌≡◌, ℕ, zero, suc, ◌+◌, ◌-◌, ◌<◌, ◌==◌, Bool, true, false, ◌&&◌, nat_lt, nat_le, if◌then◌else◌, List, [], ◌∷◌, Option, Some, None, IfSome, take, drop, subst, refl, ap, sym, ◌∙◌, arith}
use Rattle.std.proofs.lemmas.Bool.Decides.{Decides-eqb, nat_tests}
use Rattle.std.specs.Option.{option_map, option_and_then}
use Rattle.eif_grammar.specs.Lexemes.{quote_length, numbered, escaped, escape_by, escape, Escape, begins, run_length, is_digit, number_of}
use Rattle.eif_lex.specs.Items.{string_item}

-- so much more
abbrev pub later : ℕ → Option ℕ → Option ℕ
later n None = None
later n (Some k) = Some (k + n)

pub later-later : (n m k : ℕ) (o : Option ℕ) → n + m ≡ k → later n (later m o) ≡ later k o
later-later n m k None e = refl
later-later n m k (Some x) e = ap Some (omega arith)

later-zero : (o : Option ℕ) → o ≡ later 0 o
later-zero None = refl
later-zero (Some x) = ap Some (omega arith)

later-one : (o : Option ℕ) → option_map (λ n. n + 1) o ≡ later 1 o
later-one None = refl
later-one (Some x) = refl

quote_length-skip : (left : ℕ) (bs : List ℕ) → quote_length left bs ≡ later left (quote_length 0 (drop left bs))
quote_length-skip zero bs = later-zero (quote_length 0 bs)
quote_length-skip (suc left) [] = refl
quote_length-skip (suc left) (b ∷ bs) =
    later-one (quote_length left bs) ∙ ap (later 1) (quote_length-skip left bs) ∙ later-later 1 left (suc left) (quote_length 0 (drop left bs)) (omega arith)

-- what a string's length is by its first item
abbrev pub length_by : Option ℕ → List ℕ → Option ℕ
length_by None ts = if begins (λ b. b == 34) ts then Some 1 else None
length_by (Some n) ts = later n (quote_length 0 (drop n ts))

-- an escape has a byte
numbered-some : (b : Bool) (e : Escape) → 0 < e.len → IfSome (if b then Some e else None) (λ e. 0 < e.len)
numbered-some true e some = some
numbered-some false e some = tt

abbrev letter_escape : ℕ → Escape
letter_escape byte = record { byte = byte; len = 2 }

letter-some : (o : Option ℕ) → IfSome (option_map letter_escape o) (λ e. 0 < e.len)
letter-some None = tt
letter-some (Some x) = omega arith

either_some : (b : Bool) (p q : Option Escape) → IfSome p (λ e. 0 < e.len) → IfSome q (λ e. 0 < e.len) → IfSome (if b then p else q) (λ e. 0 < e.len)
either_some true p q hp hq = hp
either_some false p q hp hq = hq

pub numbered_is_some : (ts : List ℕ) → IfSome (numbered ts) (λ e. 0 < e.len)
numbered_is_some ts =
    let n = run_length is_digit ts in
    let byte = number_of (take n ts) in
    numbered-some (nat_lt 0 n && nat_le byte 255 && begins (λ b. b == 47) (drop n ts)) (record { byte = byte; len = n + 3 }) (omega arith)

escape_by_is_some : (ts : List ℕ) → IfSome (escape_by ts) (λ e. 0 < e.len)
escape_by_is_some [] = tt
escape_by_is_some (c ∷ cs) = either_some (c == 47) (numbered cs) (option_map letter_escape (escaped c)) (numbered_is_some cs) (letter-some (escaped c))

pub escape_is_some : (ts : List ℕ) → IfSome (escape ts) (λ e. 0 < e.len)
escape_is_some ts = either_some (begins (λ b. b == 37) ts) (escape_by (drop 1 ts)) None (escape_by_is_some (drop 1 ts)) tt

by_escape : (bs : List ℕ) (o : Option Escape) → IfSome o (λ e. 0 < e.len)
    → option_and_then (λ (x : Escape). option_map (λ n. n + 1) (quote_length (x.len - 1) bs)) o ≡ length_by (option_map (λ e. e.len) o) (37 ∷ bs)
by_escape bs None some = refl
by_escape bs (Some e) some =
    let left = e.len - 1 in
    let same : suc left ≡ e.len = omega arith in
    later-one (quote_length left bs) ∙ ap (later 1) (quote_length-skip left bs)
    ∙ later-later 1 left e.len (quote_length 0 (drop left bs)) (omega arith)
    ∙ ap (λ k. later e.len (quote_length 0 (drop k (37 ∷ bs)))) same

by_tests : (b : ℕ) (bs : List ℕ) (quote line percent : Bool) → b == 34 ≡ quote → b == 10 ≡ line → b == 37 ≡ percent → IfSome (escape (b ∷ bs)) (λ e. 0 < e.len)
    → quote_length 0 (b ∷ bs) ≡ length_by (string_item (b ∷ bs)) (b ∷ bs)
by_tests b bs true line percent q l p some = grind (arith, nat_tests)
by_tests b bs false true percent q l p some = grind (arith, nat_tests)
by_tests b bs false false true q l p some =
    let here : b ≡ 37 = (Decides-eqb b 37).0 p in
    subst (λ x. IfSome (escape (x ∷ bs)) (λ e. 0 < e.len) → quote_length 0 (x ∷ bs) ≡ length_by (string_item (x ∷ bs)) (x ∷ bs)) (sym here) (by_escape bs (escape (37 ∷ bs))) some
by_tests b bs false false false q l p some = rw (q, l, p) (later-one (quote_length 0 bs))

pub quote_length-by_item : (ts : List ℕ) → quote_length 0 ts ≡ length_by (string_item ts) ts
quote_length-by_item [] = refl
quote_length-by_item (b ∷ bs) = by_tests b bs (b == 34) (b == 10) (b == 37) refl refl refl (escape_is_some (b ∷ bs))
