use Rattle.eif_lineage_laws.proofs.Ordering as ordering
use Rattle.eif_lineage_laws.proofs.order_exists.Goals as goal

pub returns : goal.returns
returns c = λ g closed no. ordering.order_exists g closed no
