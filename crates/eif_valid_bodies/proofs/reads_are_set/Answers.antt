use Rattle.eif_valid_bodies.proofs.ReadsSet.{reads_set, reads_set_in}
use Rattle.eif_valid_bodies.proofs.reads_are_set.Goals as goal

pub returns : goal.returns
returns c = record { expression = reads_set; arguments = reads_set_in }
