use Rattle.std.proofs.Common.{◌≡◌, ◌<◌, List, ℕ, Some, length, refl, subst, sym, ◌∙◌}
use Rattle.std.specs.Prelude.{slice_get}
use Rattle.std.proofs.lemmas.Option.{same_Some, slice_get_read}
use Rattle.eif_tables.specs.declared.tables.ClassTable.{ClassTable}
use Rattle.eif_tables.proofs.Held.{row_of}
use Rattle.eif_tables.proofs.tables.Tables.name.Goals as goal

pub returns : goal.returns
returns c = λ u are.
    let f = c.args.f.0 in
    let table = c.table.result.now in
    let names = table.row.names.items in
    let within = subst (λ (t : ClassTable). f < length t.row.names.items)
    (same_Some c.requires.table table (sym c.requires.at ∙ c.table.ensures)) c.requires.named in
    subst (λ ns. slice_get ns f ≡ Some c.index.result.now)
    (row_of u c.args.self.now are c.args.c.0 table c.table.ensures).names_are
    (slice_get_read names (length names) f c.index.result.now refl within c.index.ensures)
