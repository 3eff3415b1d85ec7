use Rattle.eif_lineage_laws.proofs.Descending.{descends_reaches, reaches_descends}
use Rattle.eif_lineage_laws.proofs.descent_is_reaching.Goals as goal

pub returns : goal.returns
returns c =
    λ u order is d k c at. (λ h. descends_reaches u order is d k h, λ r. reaches_descends u order is d k c at r)
