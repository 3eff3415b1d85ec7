use Rattle.std.proofs.Common.{◌≡◌, ◌≤◌, drop, fold, min}
use Rattle.eif_lex.proofs.DigitValues.{digit_step}
use Rattle.eif_grammar.specs.Lexemes.{number_of}
use Rattle.eif_lex.proofs.numbers.number_of.Given as goal

abbrev pub invariant-digits : goal.invariant-digits
invariant-digits l = record {
  low : l.number ≤ 9223372036854775808;
  value : min (fold digit_step l.number (drop l.b-index l.digits)) 9223372036854775808 ≡ min (number_of l.digits) 9223372036854775808;
}
