use Rattle.std.proofs.Common.{◌≡◌, ◌-◌, ◌≤◌, drop, length}
use Rattle.eif_grammar.specs.Lexemes.{quote_length}
use Rattle.eif_lex.proofs.QuoteLengths.{later}
use Rattle.eif_lex.proofs.quotes.quote_length.Given as goal

abbrev pub invariant-items : goal.invariant-items
invariant-items l = (l.n ≤ length l.text) × (later l.n (quote_length 0 (drop l.n l.text)) ≡ quote_length 0 l.text)

abbrev pub decreases-items : goal.decreases-items
decreases-items l = length l.text - l.n
