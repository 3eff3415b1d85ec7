use Rattle.eif_type_laws.proofs.Validity.{put_valid}
use Rattle.eif_type_laws.proofs.substitution_keeps_validity.Goals as goal

pub returns : goal.returns
returns c = λ u order is defined k d xs are valid meet t p v. put_valid u order is defined k d xs are valid meet t p v
