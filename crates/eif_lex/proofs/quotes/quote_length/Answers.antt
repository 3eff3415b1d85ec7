use Rattle.std.proofs.Common.{◌≡◌, ◌+◌, ◌≤◌, Some, length, drop, refl, ap, sym, ◌∙◌, arith, length-drop}
use Rattle.std.proofs.lemmas.List.{drop-drop}
use Rattle.eif_grammar.specs.Lexemes.{quote_length}
use Rattle.eif_lex.specs.Items.{string_item}
use Rattle.eif_lex.proofs.QuoteLengths.{later, later-later, length_by, quote_length-by_item}
use Rattle.eif_lex.proofs.quotes.quote_length.Goals as goal

pub items-preserved : goal.items-preserved
items-preserved c =
    let n = c.items.n in let len = c.in-Some.len in let text = c.args.text.now in
    let item : string_item (drop n text) ≡ Some len = ap string_item (sym c.behind.ensures) ∙ sym c.string_item.ensures.value ∙ c.in-Some.is in
    let here : quote_length 0 (drop n text) ≡ later len (quote_length 0 (drop (n + len) text)) =
    quote_length-by_item (drop n text) ∙ ap (λ o. length_by o (drop n text)) item ∙ ap (λ l. later len (quote_length 0 l)) (drop-drop len n text) in
    let room : len ≤ length (drop n text) = rw (← c.behind.ensures) c.in-Some.ensures.within in (
      omega (arith, room, length-drop n text),
      sym (later-later n len (n + len) (quote_length 0 (drop (n + len) text)) refl) ∙ ap (later n) (sym here) ∙ c.items.invariant.1,
    )
