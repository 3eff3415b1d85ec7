use Rattle.std.proofs.Common.{◌∙◌}
use Rattle.eif_class_rows.proofs.RowsFor.{parents_told}
use Rattle.eif_rows.specs.Numbers.{class_numbers}
use Rattle.eif_universe.specs.Universes.{classes_of}
use Rattle.eif_class_rows.proofs.phase.has_clean_ancestors.Goals as goal

pub returns : goal.returns
returns c =
    c.have_rows.ensures
    ∙ parents_told (classes_of c.args.u.now) c.requires.system c.args.rows.now c.args.class_id.0 c.requires.rows
    c.requires.class (class_numbers c.parents.result.now) c.parents.ensures
