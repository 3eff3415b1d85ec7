use Rattle.std.proofs.Common.{refl}
use Rattle.eif_examples.specs.Digest.{mix}
use Rattle.eif_examples.proofs.operator_runs.sparse_operator_runs_digests.Goals as goal

pub returns : goal.returns
unfolding mix
returns c = refl
