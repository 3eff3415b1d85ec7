use Rattle.eif_flow_rules_laws.proofs.TestLocals.{agree}
use Rattle.eif_flow_rules_laws.proofs.test_locals_agree.Goals as goal

pub returns : goal.returns
returns c = agree
