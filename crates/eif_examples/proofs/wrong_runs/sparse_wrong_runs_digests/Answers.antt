use Rattle.std.proofs.Common.{refl}
use Rattle.eif_examples.specs.Digest.{mix}
use Rattle.eif_examples.proofs.wrong_runs.sparse_wrong_runs_digests.Goals as goal

pub returns : goal.returns
unfolding mix
returns c = refl
