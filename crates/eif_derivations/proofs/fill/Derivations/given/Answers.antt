use denote.Ref.{Bor}
use Rattle.std.proofs.Common.{◌≡◌, Some, None, sym, ap, ◌∙◌}
use Rattle.std.specs.Option.{option_map}
use Rattle.std.specs.Prelude.{slice_get}
use Rattle.eif_derivations.proofs.Given.{no_class_gives, nothing_given, past_rows, row_class}
use Rattle.eif_derivations.specs.declared.derivation.DerivationRow.{DerivationRow}
use Rattle.eif_derivations.specs.ListNumbers.{lists_of}
use Rattle.eif_derivations.proofs.fill.Derivations.given.Goals as goal

pub returns-in-Some-given_by : goal.returns-in-Some-given_by
returns-in-Some-given_by c = λ u s are.
    let x = c.args.self.now in
    let d = c.args.class_id.0 in
    let at : slice_get x.rows.items d ≡ Some c.in-Some.row.now =
    sym c.row.ensures ∙ ap (option_map (λ (r : Bor DerivationRow). r.now)) c.in-Some.is in
    let class = row_class u x are d c.in-Some.row.now at in
    c.list_of.ensures _
    (c.in-Some-given_by.ensures.given u (lists_of x.lists) class.0 s class.1 (are.each d c.in-Some.row.now at))

pub returns-in-None-given_by : goal.returns-in-None-given_by
returns-in-None-given_by c = λ u s are.
    let x = c.args.self.now in
    let d = c.args.class_id.0 in
    let at : slice_get x.rows.items d ≡ Some c.in-Some.row.now =
    sym c.row.ensures ∙ ap (option_map (λ (r : Bor DerivationRow). r.now)) c.in-Some.is in
    let class = row_class u x are d c.in-Some.row.now at in
    nothing_given u s d c.args.k.0
    (c.in-None-given_by.ensures.none u (lists_of x.lists) class.0 s class.1 (are.each d c.in-Some.row.now at))

pub returns-in-None : goal.returns-in-None
returns-in-None c = λ u s are.
    let d = c.args.class_id.0 in
    let none : slice_get c.args.self.now.rows.items d ≡ None =
    sym c.row.ensures ∙ ap (option_map (λ (r : Bor DerivationRow). r.now)) c.in-None.is in
    no_class_gives u s d c.args.k.0 (past_rows u c.args.self.now are d none)
