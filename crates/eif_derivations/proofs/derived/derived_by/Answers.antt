use Rattle.std.proofs.Common.{sym, ◌∙◌}
use Rattle.eif_derivations.specs.WayViews.{ways_view}
use Rattle.eif_derivations.proofs.WayLaws.{large_common, large_faults, undefined_common}
use Rattle.eif_derivations.proofs.derived.derived_by.Goals as goal

pub returns-then-not-are_defined-clause-actuals : goal.returns-then-not-are_defined-clause-actuals
returns-then-not-are_defined-clause-actuals c =
    undefined_common (ways_view c.args.ways.now) (sym c.are_defined.ensures ∙ c.if-not-are_defined.true)

pub returns-in-Some-clause-actuals : goal.returns-in-Some-clause-actuals
returns-in-Some-clause-actuals c = large_common (ways_view c.args.ways.now) c.in-Some.place c.in-Some.ensures

pub returns-in-Some-clause-faults : goal.returns-in-Some-clause-faults
returns-in-Some-clause-faults c = λ k name.
    large_faults k name (ways_view c.args.ways.now) c.in-Some.place
    (sym c.are_defined.ensures ∙ c.if-not-are_defined.false) c.in-Some.ensures
