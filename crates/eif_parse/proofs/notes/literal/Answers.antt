use Rattle.std.proofs.Common.{drop, ap, arith, rules, pos, ◌-ℤ◌, SFits, w64}
use Rattle.std.proofs.lemmas.Int.{to_z-of_z, ints}
use Rattle.eif_grammar.specs.declared.terminal.Terminal.TheVariants as t
use Rattle.eif_grammar.specs.ClassRules.{plus, minus, literal_start}
use Rattle.eif_grammar.specs.Goals.{literal, class_goal}
use Rattle.eif_grammar.specs.Outcomes.{Calls}
use Rattle.eif_grammar_laws.proofs.Readers.{called, ended}
use Rattle.eif_parse_expr.proofs.Steps.{relay_token, next_here, token_here, other_here}
use Rattle.eif_parse.proofs.NoteSteps.{literal_begun}
use Rattle.eif_parse.proofs.notes.literal.Goals as goal

pub returns-in_err-next : goal.returns-in_err-next
returns-in_err-next c =
    let a = c.args in let all = a.tokens.now.tokens in let sign = c.in-Some.ensures in
    relay_token (Calls (class_goal literal) (drop a.from all)) (λ l. l) t.Integer all c.in-Some.start a.from _ _
    c.from_residual.ensures.1 c.in_err-next.ensures (omega (arith, sign.behind)) sign.within
    (λ other. literal_begun plus (ap literal_start sign.is) (next_here sign (other_here other)))

pub returns-in-Some : goal.returns-in-Some
returns-in-Some c =
    let sign = c.in-Some.ensures in let integer = c.in_ok-next.ensures in let fits : SFits w64 c.integer_at.result = search rules in
    record {
      outcome = simp to_z-of_z (rw (c.integer_at.ensures) (literal_begun plus (ap literal_start sign.is) (next_here sign (called (token_here integer) ended))));
      forward = omega (arith, sign.behind, integer.behind);
      within = integer.within;
    }

pub returns-in_err-next-2 : goal.returns-in_err-next-2
returns-in_err-next-2 c =
    let a = c.args in let all = a.tokens.now.tokens in let sign = c.in-Some-behind.ensures in
    relay_token (Calls (class_goal literal) (drop a.from all)) (λ l. l) t.Integer all c.in-Some-behind.start a.from _ _
    c.from_residual-in_err-next-2.ensures.1 c.in_err-next-2.ensures (omega (arith, sign.behind)) sign.within
    (λ other. literal_begun minus (ap literal_start sign.is) (next_here sign (other_here other)))

pub returns-in-Some-behind : goal.returns-in-Some-behind
returns-in-Some-behind c =
    let sign = c.in-Some-behind.ensures in let integer = c.in_ok-next-2.ensures in let v = c.integer_at-in-Some-behind.result in
    let fits : SFits w64 v = search rules in
    let fits' : SFits w64 (pos 0 -ℤ v) = search (rules, ints) in
    record {
      outcome = simp to_z-of_z (rw (c.integer_at-in-Some-behind.ensures) (literal_begun minus (ap literal_start sign.is) (next_here sign (called (token_here integer) ended))));
      forward = omega (arith, sign.behind, integer.behind);
      within = integer.within;
    }
