use Rattle.std.proofs.Common.{refl}
use Rattle.eif_tree.specs.declared.tree.Mark.TheVariants.{Plain}
use Rattle.eif_type_laws.proofs.Conforming.{reflexive_at}
use Rattle.eif_type_laws.proofs.conformance_is_reflexive.Goals as goal

pub returns : goal.returns
returns c = λ u order is d a of_class something. reflexive_at u order is d a of_class something Plain Plain refl
