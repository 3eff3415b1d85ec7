use Rattle.eif_type_laws.proofs.Ancestors.{ancestor_of}
use Rattle.eif_type_laws.proofs.ancestry_is_of_the_class.Goals as goal

pub returns : goal.returns
returns c = λ u order is d k xs h. ancestor_of u order is d k xs h
