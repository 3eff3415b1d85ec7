use Rattle.std.proofs.Common.{◌≡◌, false, subst, ◌∙◌}
use Rattle.eif_base.specs.Numbering.{is_among}
use Rattle.eif_rows.proofs.ClassSets.{names-name_set}
use Rattle.eif_rows.proofs.row.Row.find.Goals as goal
use Rattle.eif_system.specs.Lineage.{line_of}

pub returns-in-None-clause-none : goal.returns-in-None-clause-none
returns-in-None-clause-none c = λ u d is.
    let names_are = c.deref.ensures.value ∙ is.names_are in
    let set = names-name_set (line_of u d) in
    subst (λ ns. is_among ns c.args.name.now ≡ false) names_are (c.in-None.ensures.none set.0 (names_are ∙ set.1))
