use Rattle.std.proofs.Common.{◌≡◌, ◌+◌, ◌-◌, ◌≤◌, drop, length}
use Rattle.eif_grammar.specs.Lexemes.{run_length, is_digit}
use Rattle.eif_lex.proofs.fronts.digits_run.Given as goal

abbrev pub invariant-digits : goal.invariant-digits
invariant-digits l = (l.n ≤ length l.text) × (l.n + run_length is_digit (drop l.n l.text) ≡ run_length is_digit l.text)

abbrev pub decreases-digits : goal.decreases-digits
decreases-digits l = length l.text - l.n
