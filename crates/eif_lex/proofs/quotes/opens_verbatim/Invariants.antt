use Rattle.std.proofs.Common.{◌≡◌, length}
use Rattle.eif_grammar.specs.Lexemes.{opens_verbatim}
use Rattle.eif_lex.proofs.quotes.opens_verbatim.Given as goal

abbrev pub invariant-bytes : goal.invariant-bytes
invariant-bytes l = opens_verbatim l.text ≡ opens_verbatim l.initial.text

abbrev pub decreases-bytes : goal.decreases-bytes
decreases-bytes l = length l.text
