use Rattle.eif_ancestry.proofs.ByCount.{ancestor_first}
use Rattle.eif_ancestry.proofs.order.ancestors_first.Goals as goal

pub returns : goal.returns
returns c = ancestor_first
