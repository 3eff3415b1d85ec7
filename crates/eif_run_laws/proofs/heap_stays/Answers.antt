use Rattle.eif_run_laws.proofs.Fitting.{object_made}
use Rattle.eif_run_laws.proofs.Growing.{objects_stay}
use Rattle.eif_run_laws.proofs.Heaps as heaps
use Rattle.eif_run_laws.proofs.heap_stays.Goals as goal

pub returns-clause-heap : goal.returns-clause-heap
returns-clause-heap c = heaps.heap_stays

pub returns-clause-objects : goal.returns-clause-objects
returns-clause-objects c = objects_stay

pub returns-clause-made : goal.returns-clause-made
returns-clause-made c = λ system laws h v o heap e. object_made system laws h v o heap e
