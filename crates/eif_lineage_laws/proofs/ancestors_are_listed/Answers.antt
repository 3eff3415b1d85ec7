use Rattle.eif_lineage_laws.proofs.Descending.{above_listed, above_before}
use Rattle.eif_lineage_laws.proofs.ancestors_are_listed.Goals as goal

pub returns-clause-listed : goal.returns-clause-listed
returns-clause-listed c = λ u order is d c at. above_listed u order is d c at

pub returns-clause-before : goal.returns-clause-before
returns-clause-before c = λ u order is i d k place m. above_before u order is i d k place m
