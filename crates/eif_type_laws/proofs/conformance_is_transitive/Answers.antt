use Rattle.eif_type_laws.proofs.Conforming.{transitive}
use Rattle.eif_type_laws.proofs.conformance_is_transitive.Goals as goal

pub returns : goal.returns
returns c = λ u order is defined d x y z h g. transitive u order is defined d x y z h g
