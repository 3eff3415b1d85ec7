use Rattle.eif_type_laws.proofs.Ancestors.{composes}
use Rattle.eif_type_laws.proofs.ancestry_composes.Goals as goal

pub returns : goal.returns
returns c = λ u order is defined d k j xs ys h g. composes u order is defined d k j xs ys h g
