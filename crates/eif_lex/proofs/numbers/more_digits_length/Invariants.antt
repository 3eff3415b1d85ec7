use Rattle.std.proofs.Common.{◌≡◌, ◌+◌, ◌-◌, ◌≤◌, drop, length}
use Rattle.eif_grammar.specs.Lexemes.{more_digits_length}
use Rattle.eif_lex.proofs.numbers.more_digits_length.Given as goal

abbrev pub invariant-digits : goal.invariant-digits
invariant-digits l = (l.n ≤ length l.text) × (l.n + more_digits_length (drop l.n l.text) ≡ more_digits_length l.text)

abbrev pub decreases-digits : goal.decreases-digits
decreases-digits l = length l.text - l.n
