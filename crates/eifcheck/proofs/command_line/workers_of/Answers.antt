use Rattle.std.proofs.Common.{◌≡◌, ◌∙◌, ◌≤◌, ap, arith, rules, sym}
use Rattle.std.specs.Prelude.{decimal}
use Rattle.eif_base.specs.declared.limits.TheConstants.{MOST_WORKERS}
use Rattle.std.proofs.lemmas.Bool.Decides.{nat_tests}
use Rattle.std.proofs.lemmas.Slice.Eq.{bytes_eq-Decides}
use Rattle.eifcheck.proofs.Workers.{find-stated, find-unstated}
use Rattle.eifcheck.proofs.command_line.workers_of.Goals as goal

pub returns-in_default-clause-states : goal.returns-in_default-clause-states
returns-in_default-clause-states c =
    find-unstated c.args.word.now c.parse.result MOST_WORKERS (omega arith) c.parse.ensures.value.0
    (λ n low high parsed is. c.in_default.not-Ok n parsed)

pub returns-then-not-contains-clause-states : goal.returns-then-not-contains-clause-states
returns-then-not-contains-clause-states c =
    find-unstated c.args.word.now c.parse.result MOST_WORKERS (omega arith) c.parse.ensures.value.0
    (λ n low high parsed is.
    let same : n ≡ c.in-Ok.workers = grind arith in
    grind (arith, nat_tests, c.if-not-contains.true, c.contains.ensures.cases))

pub returns-then-ne-clause-states : goal.returns-then-ne-clause-states
returns-then-ne-clause-states c =
    find-unstated c.args.word.now c.parse.result MOST_WORKERS (omega arith) c.parse.ensures.value.0
    (λ n low high parsed is.
    let same : n ≡ c.in-Ok.workers = grind arith in
    let again = c.as_str.ensures.value ∙ c.in_ok-to_string.ensures.ok ∙ ap decimal (sym same) ∙ is in
    grind (arith, (bytes_eq-Decides c.as_str.result.now c.args.word.now).1 again))

pub returns-clause-states : goal.returns-clause-states
returns-clause-states c =
    let within : (1 ≤ c.in-Ok.workers) × (c.in-Ok.workers ≤ MOST_WORKERS) = search rules in
    let is : decimal c.in-Ok.workers ≡ c.args.word.now = search rules in
    find-stated c.args.word.now c.in-Ok.workers MOST_WORKERS within.0 within.1 (omega arith) is
