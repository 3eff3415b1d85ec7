use Rattle.eif_tables.proofs.Held.{name_among}
use Rattle.eif_tables.proofs.tables.Tables.names.Goals as goal

pub returns-clause-held : goal.returns-clause-held
returns-clause-held c = λ u d n are within has. name_among u c.args.self.now are d n within has
