use Rattle.eif_type_laws.proofs.Defining.{all_defined}
use Rattle.eif_type_laws.proofs.ancestry_is_defined.Goals as goal

pub returns : goal.returns
returns c = λ u order is fine d k h. all_defined u order is fine d k h
