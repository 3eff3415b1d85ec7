use Rattle.eif_table_laws.proofs.Bound.{whole_bound}
use Rattle.eif_table_laws.proofs.whole_is_bound.Goals as goal

pub returns : goal.returns
returns c = λ given root sound whole d k m down has. whole_bound given root sound whole d k m down has
