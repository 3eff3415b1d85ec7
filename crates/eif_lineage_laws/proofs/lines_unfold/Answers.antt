use Rattle.eif_lineage_laws.proofs.Unfolding.{unfolded}
use Rattle.eif_lineage_laws.proofs.lines_unfold.Goals as goal

pub returns : goal.returns
returns c = λ u order is d c at. unfolded u order is d c at
