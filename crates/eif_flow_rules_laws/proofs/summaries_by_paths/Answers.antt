use Rattle.eif_flow_rules_laws.proofs.Unfolding.{far_enough}
use Rattle.eif_flow_rules_laws.proofs.summaries_by_paths.Goals as goal

pub returns : goal.returns
returns c = far_enough
