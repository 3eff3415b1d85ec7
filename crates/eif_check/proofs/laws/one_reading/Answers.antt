use Rattle.eif_check.proofs.OneReading.{one_reading, one_system}
use Rattle.eif_check.proofs.laws.one_reading.Goals as goal

pub returns-clause-text : goal.returns-clause-text
returns-clause-text c = one_reading

pub returns-clause-system : goal.returns-clause-system
returns-clause-system c = one_system
