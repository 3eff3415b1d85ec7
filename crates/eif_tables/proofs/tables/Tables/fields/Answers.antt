use Rattle.std.proofs.Common.{ap, ◌∙◌}
use Rattle.eif_classes.specs.Features.{names}
use Rattle.eif_rows.specs.Numbers.{names_of}
use Rattle.eif_system.specs.Lineage.{line_of}
use Rattle.eif_tables.proofs.Held.{row_of}
use Rattle.eif_tables.proofs.tables.Tables.fields.Goals as goal

pub returns : goal.returns
returns c = λ u are.
    ap (names_of (names (line_of u c.args.c.0))) c.deref.ensures.value
    ∙ (row_of u c.args.self.now are c.args.c.0 c.table.result.now c.table.ensures).fields_are
