use Rattle.std.proofs.Common.{◌≡◌, ℕ, min, get_or, arith}
use Rattle.std.proofs.lemmas.Bool.Decides.{nat_tests}
use Rattle.eif_grammar.specs.Lexemes.{number_of}
use Rattle.eif_lex.proofs.DigitValues.{digit_step, next_number}
use Rattle.eif_lex.proofs.numbers.number_of.Goals as goal
use Rattle.eif_lex.proofs.numbers.number_of.Goals.{then-b-ne95, else-b-ne95}

pub digits-preserved : goal.digits-preserved
digits-preserved c =
    let cap : ℕ = 9223372036854775808 in let ds = c.args.digits.now in let n = c.digits.number in let m = c.if-b-ne95.number in let i = c.digits.b-index in
    let next : m ≡ min (digit_step n (get_or ds i 0)) cap =
    elim c.if-b-ne95.branch [ then-b-ne95 w ↦ grind (arith, nat_tests) | else-b-ne95 w ↦ grind (arith, nat_tests) ] in
    record { low = omega arith; value = next_number cap n m i (min (number_of ds) cap) ds c.digits-test.true c.digits.invariant.value next }
