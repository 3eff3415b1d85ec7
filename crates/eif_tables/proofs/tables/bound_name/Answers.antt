use Rattle.std.proofs.Common.{◌≡◌, length, ap, sym, ◌∙◌, arith}
use Rattle.std.specs.Option.{option_and_then}
use Rattle.eif_classes.specs.Features.{names}
use Rattle.eif_rows.specs.Numbers.{name_of}
use Rattle.eif_system.specs.Lineage.{line_of}
use Rattle.eif_tables.proofs.Bindings.{bound_name_at}
use Rattle.eif_tables.proofs.Descents.{unbound, unlisted}
use Rattle.eif_tables.proofs.tables.bound_name.Goals as goal

pub returns-in-Some-clause-bound : goal.returns-in-Some-clause-bound
returns-in-Some-clause-bound c = λ u d m system within other is named.
    let row = c.args.row.now in
    let long = ap length is.names_are in
    let many : length (names (line_of u d)) ≡ c.len.result = omega (arith, long, c.len.ensures, row.names.ok.0) in
    c.if_below.ensures.same (names (line_of u d)) many
    ∙ (ap (option_and_then (name_of (names (line_of u d)))) c.bound.ensures
    ∙ bound_name_at u (line_of u d) c.in-Some.ancestor.now c.args.k.0 (c.in-Some.ensures.found u d is) c.args.f.0 m
    named)

pub returns-in-None-clause-bound : goal.returns-in-None-clause-bound
returns-in-None-clause-bound c = λ u d m system within other is named.
    sym (unbound (line_of u d) c.args.k.0 m
    (unlisted u system d c.args.k.0 within other (c.in-None.ensures.none u d is)))
