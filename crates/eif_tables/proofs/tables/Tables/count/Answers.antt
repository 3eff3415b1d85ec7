use Rattle.std.proofs.Common.{length, ap, arith}
use Rattle.eif_tables.proofs.Held.{row_of}
use Rattle.eif_tables.proofs.tables.Tables.count.Goals as goal

pub returns : goal.returns
returns c = λ u are.
    let table = c.table.result.now in
    let long = ap length (row_of u c.args.self.now are c.args.c.0 table c.table.ensures).names_are in
    omega (arith, long, c.len.ensures, table.row.names.ok.0)
