use Rattle.std.proofs.Common.{refl}
use Rattle.eif_examples.specs.Digest.{mix}
use Rattle.eif_examples.proofs.type_examples.sparse_type_examples_digests.Goals as goal

pub returns : goal.returns
unfolding mix
returns c = refl
