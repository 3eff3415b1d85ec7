use Rattle.std.proofs.Common.{◌≡◌, length}
use Rattle.eif_grammar.specs.Lexemes.{ends_line}
use Rattle.eif_lex.proofs.quotes.ends_line.Given as goal

abbrev pub invariant-blanks : goal.invariant-blanks
invariant-blanks l = ends_line l.text ≡ ends_line l.initial.text

abbrev pub decreases-blanks : goal.decreases-blanks
decreases-blanks l = length l.text
