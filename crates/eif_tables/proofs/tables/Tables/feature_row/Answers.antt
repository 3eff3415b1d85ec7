use Rattle.std.proofs.Common.{◌<◌, length, refl, subst, sym, ◌∙◌}
use Rattle.std.proofs.lemmas.Option.{same_Some, slice_get_read}
use Rattle.eif_tables.specs.declared.tables.ClassTable.{ClassTable}
use Rattle.eif_tables.proofs.Held.{feature_is}
use Rattle.eif_tables.proofs.tables.Tables.feature_row.Goals as goal

pub returns : goal.returns
returns c = λ u x are at.
    let f = c.args.f.0 in
    let table = c.table.result.now in
    let rows = table.row.features.items in
    let within = subst (λ (t : ClassTable). f < length t.row.features.items)
    (same_Some c.requires.table table (sym c.requires.at ∙ c.table.ensures)) c.requires.kept in
    feature_is u c.args.self.now are c.args.c.0 table c.table.ensures f c.index.result.now x
    (slice_get_read rows (length rows) f c.index.result.now refl within c.index.ensures) at
