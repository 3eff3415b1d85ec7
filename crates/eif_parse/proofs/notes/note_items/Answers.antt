use Rattle.std.proofs.Common.{drop, arith}
use Rattle.eif_grammar.specs.Outcomes.{got}
use Rattle.eif_parse.proofs.NoteSteps.{last_note_item, one_more_note_item}
use Rattle.eif_parse.proofs.notes.note_items.Goals as goal

pub returns-in_default : goal.returns-in_default
returns-in_default c =
    let i = c.items.invariant in let r = c.in_ok-next.ensures in
    record {
      outcome = i.goes_on (got tt (drop c.in_ok-next.field-0.next c.args.tokens.now.tokens)) (last_note_item r.outcome c.in_default.ensures);
      forward = omega (arith, i.forward, r.forward);
      within = r.within;
    }

pub items-preserved : goal.items-preserved
items-preserved c =
    let i = c.items.invariant in let r = c.in_ok-next.ensures in let comma = c.in-Some.ensures in
    record { within = comma.within; forward = omega (arith, i.forward, r.forward, comma.behind); goes_on = λ u d. i.goes_on u (one_more_note_item u r.outcome comma d) }
