use Rattle.eif_type_laws.proofs.Validity.{ancestor_valid}
use Rattle.eif_type_laws.proofs.ancestry_is_valid.Goals as goal

pub returns : goal.returns
returns c = λ u order is defined valid d k xs h. ancestor_valid u order is defined valid d k xs h
