use Rattle.eif_flow_rules_laws.proofs.Meeting as met
use Rattle.eif_flow_rules_laws.proofs.needs_are_met.Goals as goal

pub returns : goal.returns
returns c = met.needs_are_met
