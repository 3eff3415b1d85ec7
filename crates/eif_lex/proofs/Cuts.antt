-- Pieces of a text, one after another.
use Rattle.std.proofs.Common.{◌≡◌, ℕ, zero, suc, ◌+◌, ◌-◌, ◌≤◌, ◌<◌, List, [], ◌∷◌, ◌++◌, Option, Some, None, Result, Ok, Err, IfSome, subst, zero-add, take, drop, length, map, refl, ap, sym, ◌∙◌, arith, append_assoc}
use Rattle.std.specs.List.{All}
use Rattle.std.proofs.lemmas.List.{drop-drop}
use Rattle.std.proofs.lemmas.List.Elements.{All-nil, All-cons}
use Rattle.std.proofs.lemmas.Grind.{common_steps}
use Rattle.eif_base.specs.declared.place.Place.{Place}
use Rattle.eif_grammar.specs.declared.piece.Piece.{Piece}
use Rattle.eif_grammar.specs.declared.terminal.Terminal.{Terminal}
use Rattle.eif_grammar.specs.declared.terminal.Terminal.TheVariants.{Integer}
use Rattle.eif_grammar.specs.Lexemes.{piece, number_of, largest_integer}
use Rattle.eif_grammar.specs.Places.{place_at}
use Rattle.eif_grammar.specs.Tokens.{Token, TokenList, joined, tokens_by, cut_by, cut, tokens_of, mark_length}
use Rattle.eif_lex.specs.declared.spot.Spot.{Spot}
use Rattle.eif_lex.specs.Lexes.{AreSlices, AreInOrderFrom, AreInOrder}
use Rattle.eif_lex.specs.Spots.{token_at, spots_of, IsSmall}

pub joined-nil : (r : Result (List Token) ℕ) → joined [] r ≡ r
joined-nil (Ok rest) = refl
joined-nil (Err at) = refl

pub joined-joined : (a b : List Token) (r : Result (List Token) ℕ) → joined a (joined b r) ≡ joined (a ++ b) r
joined-joined a b (Ok rest) = ap Ok (sym (append_assoc a b rest))
joined-joined a b (Err at) = refl

pub cut_skip : (file : ℕ) (text : List ℕ) (n at : ℕ) (ts : List ℕ) → n ≤ length ts → cut file text n at ts ≡ cut file text 0 (at + n) (drop n ts)
cut_skip file text zero at ts le = let same : at ≡ at + 0 = omega arith in ap (λ k. cut file text 0 k ts) same
cut_skip file text (suc n) at [] le = refl
cut_skip file text (suc n) at (b ∷ bs) le =
    let same : at + 1 + n ≡ at + suc n = omega arith in
    cut_skip file text n (at + 1) bs (omega arith) ∙ ap (λ k. cut file text 0 k (drop n bs)) same

-- one piece is cut off
pub cut_piece : (file : ℕ) (text : List ℕ) (at : ℕ) (ts : List ℕ) (p : Piece) → piece ts ≡ Some p → 0 < p.len → p.len ≤ length ts
    → cut file text 0 at ts ≡ joined (tokens_by file text p.terminal p.len at ts) (cut file text 0 (at + p.len) (drop p.len ts))
cut_piece file text at [] p e some le = cc
cut_piece file text at (b ∷ bs) p e some le =
    let n = p.len in
    let skip = cut_skip file text (n - 1) (at + 1) bs (omega arith) in
    let same : at + 1 + (n - 1) ≡ at + n = omega arith in
    let one : n ≡ suc (n - 1) = omega arith in
    let rest : drop (n - 1) bs ≡ drop n (b ∷ bs) = ap (λ k. drop k (b ∷ bs)) (sym one) in
    ap (λ q. cut_by file text q at (b ∷ bs) (λ left. cut file text left (at + 1) bs)) e
    ∙ ap (joined (tokens_by file text p.terminal n at (b ∷ bs))) (skip ∙ ap (λ k. cut file text 0 k (drop (n - 1) bs)) same ∙ ap (cut file text 0 (at + n)) rest)

-- where no piece starts the text is stuck
pub cut_stuck : (file : ℕ) (text : List ℕ) (at : ℕ) (ts : List ℕ) → piece ts ≡ None → 0 < length ts → cut file text 0 at ts ≡ Err at
cut_stuck file text at [] e some = absurd (omega arith)
cut_stuck file text at (b ∷ bs) e some = ap (λ q. cut_by file text q at (b ∷ bs) (λ left. cut file text left (at + 1) bs)) e

pub take_add : (at n : ℕ) (ts : List ℕ) → take (at + n) ts ≡ take at ts ++ take n (drop at ts)
take_add zero n ts = ap (λ k. take k ts) (zero-add n)
take_add (suc at) n [] = grind (arith, common_steps)
take_add (suc at) n (t ∷ ts) = let turn : suc at + n ≡ suc (at + n) = omega arith in ap (λ k. take k (t ∷ ts)) turn ∙ ap (λ l. t ∷ l) (take_add at n ts)

pub at_some : {X : Type 0} (P : X → Type 0) {o : Option X} {x : X} → o ≡ Some x → IfSome o P → P x
at_some P e h = subst (λ o. IfSome o P) e h

-- ---- the spots of one piece

pub tokens_at : (file : ℕ) (text : List ℕ) (at n : ℕ) (x : Option Terminal) → map (token_at text) (spots_of x (place_at file text at) n) ≡ tokens_by file text x n at (drop at text)
tokens_at file text at n None = refl
tokens_at file text at n (Some x) = refl

pub spots_within : (text : List ℕ) (place : Place) (n : ℕ) (x : Option Terminal) → place.offset + n ≤ length text → All (λ s. s.place.offset + s.len ≤ length text) (spots_of x place n)
spots_within text place n None le = All-nil (λ (s : Spot). s.place.offset + s.len ≤ length text)
spots_within text place n (Some x) le =
    let P = λ (s : Spot). s.place.offset + s.len ≤ length text in
    All-cons P (record { terminal = x; place = place; len = n }) [] le (All-nil P)

pub spots_small : (text : List ℕ) (place : Place) (n : ℕ) (x : Option Terminal) → (x ≡ Some Integer → number_of (take n (drop place.offset text)) ≤ largest_integer)
    → All (λ s. IsSmall (token_at text s)) (spots_of x place n)
spots_small text place n None small = All-nil (λ (s : Spot). IsSmall (token_at text s))
spots_small text place n (Some x) small =
    let P = λ (s : Spot). IsSmall (token_at text s) in
    All-cons P (record { terminal = x; place = place; len = n }) [] (λ (e : x ≡ Integer). small (ap Some e)) (All-nil P)

pub spots_few : (place : Place) (n : ℕ) (x : Option Terminal) → length (spots_of x place n) ≤ 1
spots_few place n None = omega arith
spots_few place n (Some x) = omega arith

-- ---- texts and places of all tokens

take-own : (n : ℕ) (l : List ℕ) → take n l ≡ take (length (take n l)) l
take-own zero l = refl
take-own (suc n) [] = refl
take-own (suc n) (x ∷ xs) = ap (λ l. x ∷ l) (take-own n xs)

order-weaker : (a b : ℕ) (ts : List Token) → a ≤ b → AreInOrderFrom b ts → AreInOrderFrom a ts
order-weaker a b [] le order = tt
order-weaker a b (t ∷ ts) le order = let first = order.0 in (omega arith, order.1)

-- the tokens are slices of the text, and in order from there on
record Stands (text : List ℕ) (at : ℕ) (ts : List Token) : Type 0 where
  slices : AreSlices text ts
  order : AreInOrderFrom at ts

ok_same : {a b : List Token} → ◌≡◌ {A = Result (List Token) ℕ} (Ok a) (Ok b) → a ≡ b
ok_same e = cc

module _ (file : ℕ) (text : List ℕ) where
  after_piece : (at n : ℕ) (suffix : List ℕ) (x : Option Terminal) (rest : List Token) → suffix ≡ drop at text
      → Stands text (at + 1 + (n - 1)) rest → Stands text (at + 0) (tokens_by file text x n at suffix ++ rest)
  after_piece at n suffix None rest e s = record { slices = s.slices; order = order-weaker (at + 0) (at + 1 + (n - 1)) rest (omega arith) s.order }
  after_piece at n suffix (Some x) rest e s =
      let t : Token = record { terminal = x; place = place_at file text at; text = take n suffix } in
      let same : take n suffix ≡ take (length (take n suffix)) (drop at text) = take-own n suffix ∙ ap (take (length (take n suffix))) e in
      let short : length (take n suffix) ≤ n = grind (arith, common_steps) in
      record {
        slices = All-cons (λ (t : Token). t.text ≡ take (length t.text) (drop t.place.offset text)) t rest same s.slices;
        order = (omega arith, order-weaker (at + length (take n suffix)) (at + 1 + (n - 1)) rest (omega arith) s.order);
      }

  by_rest : (at n : ℕ) (suffix : List ℕ) (x : Option Terminal) (r : Result (List Token) ℕ) (ts : List Token) → suffix ≡ drop at text
      → ((rest : List Token) → r ≡ Ok rest → Stands text (at + 1 + (n - 1)) rest) → joined (tokens_by file text x n at suffix) r ≡ Ok ts → Stands text (at + 0) ts
  by_rest at n suffix x (Ok rest) ts e more is = subst (Stands text (at + 0)) (ok_same is) (after_piece at n suffix x rest e (more rest refl))
  by_rest at n suffix x (Err k) ts e more is = cc

  by_piece : (at : ℕ) (suffix : List ℕ) (o : Option Piece) (rest_by : ℕ → Result (List Token) ℕ) (ts : List Token) → suffix ≡ drop at text
      → ((left : ℕ) (rest : List Token) → rest_by left ≡ Ok rest → Stands text (at + 1 + left) rest) → cut_by file text o at suffix rest_by ≡ Ok ts → Stands text (at + 0) ts
  by_piece at suffix None rest_by ts e more is = cc
  by_piece at suffix (Some p) rest_by ts e more is = by_rest at p.len suffix p.terminal (rest_by (p.len - 1)) ts e (more (p.len - 1)) is

  cut_stands : (left at : ℕ) (suffix : List ℕ) (ts : List Token) → suffix ≡ drop at text → cut file text left at suffix ≡ Ok ts → Stands text (at + left) ts
  cut_stands left at [] ts e is = subst (Stands text (at + left)) (ok_same is) (record { slices = All-nil (λ (t : Token). t.text ≡ take (length t.text) (drop t.place.offset text)); order = tt })
  cut_stands (suc left) at (b ∷ bs) ts e is =
      let next : bs ≡ drop (at + 1) text = ap (drop 1) e ∙ drop-drop 1 at text in
      let rest = cut_stands left (at + 1) bs ts next is in
      record { slices = rest.slices; order = order-weaker (at + suc left) (at + 1 + left) ts (omega arith) rest.order }
  cut_stands zero at (b ∷ bs) ts e is =
      let next : bs ≡ drop (at + 1) text = ap (drop 1) e ∙ drop-drop 1 at text in
      by_piece at (b ∷ bs) (piece (b ∷ bs)) (λ left. cut file text left (at + 1) bs) ts e
      (λ (left : ℕ) (rest : List Token) (h : cut file text left (at + 1) bs ≡ Ok rest). cut_stands left (at + 1) bs rest next h) is

  pub tokens_of-same : (l m : TokenList) → l ≡ m → tokens_of file text ≡ Ok m.tokens → tokens_of file text ≡ Ok l.tokens
  tokens_of-same l m same is = subst (λ (k : TokenList). tokens_of file text ≡ Ok k.tokens) (sym same) is

  -- the text of each token stands at its place
  pub tokens_of-slices : (ts : List Token) → tokens_of file text ≡ Ok ts → AreSlices text ts
  tokens_of-slices ts is = (cut_stands (mark_length text) 0 text ts refl is).slices

  -- no token begins before the end of the one before it
  pub tokens_of-in_order : (ts : List Token) → tokens_of file text ≡ Ok ts → AreInOrder ts
  tokens_of-in_order ts is = order-weaker 0 (0 + mark_length text) ts (omega arith) (cut_stands (mark_length text) 0 text ts refl is).order
