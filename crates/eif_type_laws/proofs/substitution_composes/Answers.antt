use Rattle.eif_type_laws.proofs.Substitution.{put_put}
use Rattle.eif_type_laws.proofs.substitution_composes.Goals as goal

pub returns : goal.returns
returns c = λ xs ys t. put_put xs ys t
