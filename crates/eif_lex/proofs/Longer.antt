-- The longer of two pieces, and bounds on the length of pieces.
use Rattle.std.proofs.Common.{◌≡◌, ℕ, ◌<◌, ◌≤◌, Bool, true, false, ◌&&◌, if◌then◌else◌, nat_lt, List, [], ◌∷◌, Option, Some, None, IfSome, length, take, subst, refl, ap, sym, arith, nat_eq}
use Rattle.std.specs.List.{starts_with}
use Rattle.std.proofs.lemmas.Grind.{common_steps}
use Rattle.std.proofs.lemmas.Bool.Decides.{Decides-ltb}
use Rattle.std.proofs.lemmas.Slice.Eq.{bytes_eq-Decides}
use Rattle.eif_grammar.specs.declared.piece.Piece.{Piece}
use Rattle.eif_grammar.specs.declared.terminal.Terminal.{Terminal}
use Rattle.eif_grammar.specs.Lexemes.{longer, longest_row, token}
use Rattle.eif_grammar.specs.Words.{symbols}

either : (P : Piece → Type 0) (b : Bool) (p q : Piece) → P p → P q → IfSome (if b then Some q else Some p) P
either P true p q hp hq = hq
either P false p q hp hq = hp

-- what is true of both is true of the longer
pub longer-keeps : (P : Piece → Type 0) (p q : Option Piece) → IfSome p P → IfSome q P → IfSome (longer p q) P
longer-keeps P None q hp hq = hq
longer-keeps P (Some p) None hp hq = hp
longer-keeps P (Some p) (Some q) hp hq = either P (nat_lt p.len q.len) p q hp hq

-- each row has a byte
abbrev pub are_filled : List (List ℕ × Terminal) → Bool
are_filled [] = true
are_filled (row ∷ rows) = nat_lt 0 (length row.0) && are_filled rows

row_within : (word text : List ℕ) (x : Terminal) (b : Bool) → b ≡ starts_with nat_eq text word → IfSome (if b then Some (token x (length word)) else None) (λ p. p.len ≤ length text)
row_within word text x true e =
    let same : word ≡ take (length word) text = (bytes_eq-Decides word (take (length word) text)).0 (sym e) in
    let long : length word ≡ length (take (length word) text) = ap length same in
    grind (arith, common_steps)
row_within word text x false e = tt

pub longest_row-within : (rows : List (List ℕ × Terminal)) (text : List ℕ) → IfSome (longest_row rows text) (λ p. p.len ≤ length text)
longest_row-within [] text = tt
longest_row-within (row ∷ rows) text =
    longer-keeps (λ p. p.len ≤ length text) (if starts_with nat_eq text row.0 then Some (token row.1 (length row.0)) else None) (longest_row rows text)
    (row_within row.0 text row.1 (starts_with nat_eq text row.0) refl) (longest_row-within rows text)

row_filled : (word : List ℕ) (x : Terminal) (b : Bool) → 0 < length word → IfSome (if b then Some (token x (length word)) else None) (λ p. 0 < p.len)
row_filled word x true e = e
row_filled word x false e = tt

pub and_parts : (a b : Bool) → (a && b) ≡ true → (a ≡ true) × (b ≡ true)
and_parts true true e = (refl, refl)
and_parts true false e = cc
and_parts false b e = cc

pub longest_row-filled : (rows : List (List ℕ × Terminal)) (text : List ℕ) → are_filled rows ≡ true → IfSome (longest_row rows text) (λ p. 0 < p.len)
longest_row-filled [] text e = tt
longest_row-filled (row ∷ rows) text e =
    let parts = and_parts (nat_lt 0 (length row.0)) (are_filled rows) e in
    let some : 0 < length row.0 = (Decides-ltb 0 (length row.0)).0 parts.0 in
    longer-keeps (λ p. 0 < p.len) (if starts_with nat_eq text row.0 then Some (token row.1 (length row.0)) else None) (longest_row rows text)
    (row_filled row.0 row.1 (starts_with nat_eq text row.0) some) (longest_row-filled rows text parts.1)

pub symbols-filled : are_filled symbols ≡ true
symbols-filled = refl

pub longer-keeps-at : (P : Piece → Type 0) (r p q : Option Piece) → r ≡ longer p q → IfSome p P → IfSome q P → IfSome r P
longer-keeps-at P r p q e hp hq = subst (λ o. IfSome o P) (sym e) (longer-keeps P p q hp hq)
