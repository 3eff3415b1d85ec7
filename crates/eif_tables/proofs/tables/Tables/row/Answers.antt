use Rattle.std.proofs.Common.{subst, sym}
use Rattle.eif_classes.specs.Features.{names}
use Rattle.eif_system.specs.Lineage.{line_of}
use Rattle.eif_tables.specs.Numbered.{AreEntries}
use Rattle.eif_tables.proofs.Held.{entries_of}
use Rattle.eif_tables.proofs.tables.Tables.row.Goals as goal

pub returns : goal.returns
returns c = λ u are.
    subst (λ es. AreEntries c.args.self.now.names (names (line_of u c.args.c.0)) es) (sym c.deref.ensures.value)
    (entries_of u c.args.self.now are c.args.c.0 c.table.result.now c.table.ensures)
