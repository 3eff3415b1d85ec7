use Rattle.eif_type_laws.proofs.Conforming.{substituted}
use Rattle.eif_type_laws.proofs.substitution_keeps_conformance.Goals as goal

pub returns : goal.returns
returns c = λ u order is defined k d xs are meet a b p q h. substituted u order is defined k d xs are meet a b p q h
