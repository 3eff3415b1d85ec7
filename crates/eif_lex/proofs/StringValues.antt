-- The values of strings, item by item.
use Rattle.std.proofs.Common.{◌≡◌, ℕ, zero, suc, ◌-◌, ◌<◌, ◌==◌, Bool, true, false, if◌then◌else◌, List, [], ◌∷◌, ◌++◌, Option, Some, None, IfSome, unwrap_or, drop, refl, ap, sym, ◌∙◌, arith, append_assoc}
use Rattle.std.specs.Option.{option_map_or}
use Rattle.eif_grammar.specs.Lexemes.{escape, Escape}
use Rattle.eif_grammar.specs.Literals.{string_items}
use Rattle.eif_lex.specs.Items.{value_item}
use Rattle.eif_lex.proofs.QuoteLengths.{escape_is_some}

string_items-skip : (left : ℕ) (bs : List ℕ) → string_items left bs ≡ string_items 0 (drop left bs)
string_items-skip zero bs = refl
string_items-skip (suc left) [] = refl
string_items-skip (suc left) (b ∷ bs) = string_items-skip left bs

by_escape : (b : ℕ) (bs : List ℕ) (o : Option Escape) (item : Escape) → IfSome o (λ e. 0 < e.len) → unwrap_or o (record { byte = b; len = 1 }) ≡ item
    → option_map_or (λ (e : Escape). e.byte ∷ string_items (e.len - 1) bs) o (b ∷ string_items 0 bs) ≡ item.byte ∷ string_items 0 (drop item.len (b ∷ bs))
by_escape b bs None item some e = ap (λ (i : Escape). i.byte ∷ string_items 0 (drop i.len (b ∷ bs))) e
by_escape b bs (Some x) item some e =
    let left : suc (x.len - 1) ≡ x.len = omega arith in
    ap (λ l. x.byte ∷ l) (string_items-skip (x.len - 1) bs) ∙ ap (λ k. x.byte ∷ string_items 0 (drop k (b ∷ bs))) left
    ∙ ap (λ (i : Escape). i.byte ∷ string_items 0 (drop i.len (b ∷ bs))) e

item_same : {a b : Escape} → Some a ≡ Some b → a ≡ b
item_same e = cc

by_quote : (b : ℕ) (bs : List ℕ) (item : Escape) (quote : Bool)
    → (if quote then None else Some (unwrap_or (escape (b ∷ bs)) (record { byte = b; len = 1 }))) ≡ Some item
    → (if quote then [] else option_map_or (λ (e : Escape). e.byte ∷ string_items (e.len - 1) bs) (escape (b ∷ bs)) (b ∷ string_items 0 bs)) ≡ item.byte ∷ string_items 0 (drop item.len (b ∷ bs))
by_quote b bs item true e = cc
by_quote b bs item false e = by_escape b bs (escape (b ∷ bs)) item (escape_is_some (b ∷ bs)) (item_same e)

-- the value goes on with the item
pub string_items-by_item : (ts : List ℕ) (item : Escape) → value_item ts ≡ Some item → string_items 0 ts ≡ item.byte ∷ string_items 0 (drop item.len ts)
string_items-by_item [] item e = cc
string_items-by_item (b ∷ bs) item e = by_quote b bs item (b == 34) e

pub next_item : (front new ts rest total : List ℕ) (item : Escape) → value_item ts ≡ Some item → new ≡ front ++ item.byte ∷ [] → rest ≡ drop item.len ts
    → front ++ string_items 0 ts ≡ total → new ++ string_items 0 rest ≡ total
next_item front new ts rest total item e pushed behind before =
    ap (λ l. l ++ string_items 0 rest) pushed ∙ append_assoc front (item.byte ∷ []) (string_items 0 rest)
    ∙ ap (λ l. front ++ (item.byte ∷ string_items 0 l)) behind ∙ ap (λ l. front ++ l) (sym (string_items-by_item ts item e)) ∙ before
