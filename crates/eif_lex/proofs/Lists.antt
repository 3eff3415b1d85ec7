-- Tokens by their numbers.
use Rattle.std.proofs.Common.{◌≡◌, ℕ, zero, suc, ◌+◌, ◌<◌, ◌≤◌, Bool, true, false, ◌||◌, ◌&&◌, if◌then◌else◌, List, [], ◌∷◌, Some, length, take, drop, map, slice_get, slice_index_or, refl, ap, sym, ◌∙◌, arith, subst}
use Rattle.std.specs.Option.{option_map}
use Rattle.eif_grammar.specs.declared.terminal.Terminal.{Terminal}
use Rattle.eif_grammar.specs.LeftOut.{is_left_out, bars_brace, is_open_brace, left_out_after}
use Rattle.eif_grammar.specs.Tokens.{Token}
use Rattle.eif_grammar.specs.declared.terminal.Terminal.TheVariants.{Integer}
use Rattle.eif_grammar.specs.Lexemes.{number_of, largest_integer}
use Rattle.std.specs.List.{All}
use Rattle.std.proofs.lemmas.Option.{slice_get_read, slice_get-map}
use Rattle.eif_lex.specs.declared.spot.Spot.{Spot}
use Rattle.eif_grammar.specs.Spelling.{head}
use Rattle.eif_lex.specs.Spots.{token_at, IsSmall}

some_same : {A : Type 0} {a b : A} → Some a ≡ Some b → a ≡ b
some_same e = cc

pub head-drop : (ts : List Token) (i : ℕ) (x : Terminal) → option_map (λ t. t.terminal) (slice_get ts i) ≡ Some x → head (drop i ts) ≡ x
head-drop [] i x e = cc
head-drop (t ∷ ts) zero x e = some_same e
head-drop (t ∷ ts) (suc i) x e = head-drop ts i x e

abbrev pub is_left_out_after : Terminal → Terminal → Bool
is_left_out_after before x = is_left_out x || (bars_brace before && is_open_brace x)

pub left_out_after-drop : (ts : List Token) (i : ℕ) (before x : Terminal) → option_map (λ t. t.terminal) (slice_get ts i) ≡ Some x
    → left_out_after before (drop i ts) ≡ (if is_left_out_after before x then slice_get ts i else left_out_after x (drop (i + 1) ts))
left_out_after-drop [] i before x e = cc
left_out_after-drop (t ∷ ts) zero before x e =
    ap (λ y. if is_left_out_after before y then Some t else left_out_after y ts) (some_same e)
left_out_after-drop (t ∷ ts) (suc i) before x e =
    let turn : suc (i + 1) ≡ suc i + 1 = omega arith in
    left_out_after-drop ts i before x e
    ∙ ap (λ k. if is_left_out_after before x then slice_get ts i else left_out_after x (drop k (t ∷ ts))) turn

pub left_out_here : (ts : List Token) (i : ℕ) (before x : Terminal) → option_map (λ t. t.terminal) (slice_get ts i) ≡ Some x → is_left_out_after before x ≡ true
    → left_out_after before (drop i ts) ≡ slice_get ts i
left_out_here ts i before x e is = left_out_after-drop ts i before x e ∙ ap (λ b. if b then slice_get ts i else left_out_after x (drop (i + 1) ts)) is

pub left_out_later : (ts : List Token) (i : ℕ) (before x : Terminal) → option_map (λ t. t.terminal) (slice_get ts i) ≡ Some x → is_left_out_after before x ≡ false
    → left_out_after before (drop i ts) ≡ left_out_after x (drop (i + 1) ts)
left_out_later ts i before x e is = left_out_after-drop ts i before x e ∙ ap (λ b. if b then slice_get ts i else left_out_after x (drop (i + 1) ts)) is

-- an integer at a spot is small
pub small_at : (text : List ℕ) (spots : List Spot) (tokens : List Token) (i : ℕ) (s : Spot) → All (λ s. IsSmall (token_at text s)) spots → i < length spots → s ≡ slice_index_or spots i s
    → map (token_at text) spots ≡ tokens → head (drop i tokens) ≡ Integer → number_of (take s.len (drop s.place.offset text)) ≤ largest_integer
small_at text spots tokens i s small within here view is =
    let got : slice_get spots i ≡ Some s = slice_get_read spots (length spots) i s refl within here in
    let token : slice_get tokens i ≡ Some (token_at text s) =
    ap (λ l. slice_get l i) (sym view) ∙ slice_get-map (token_at text) spots i ∙ ap (option_map (token_at text)) got in
    let kind : s.terminal ≡ Integer = sym (head-drop tokens i s.terminal (ap (option_map (λ (t : Token). t.terminal)) token)) ∙ is in
    subst (λ (r : Spot). IsSmall (token_at text r)) (sym here) (small i s within) kind
