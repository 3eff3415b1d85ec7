use Rattle.std.proofs.Common.{refl}
use Rattle.eif_examples.specs.Digest.{mix}
use Rattle.eif_examples.proofs.creation_order.sparse_creation_order_digests.Goals as goal

pub returns : goal.returns
unfolding mix
returns c = refl
