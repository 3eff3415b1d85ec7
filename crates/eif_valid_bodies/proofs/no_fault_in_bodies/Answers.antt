use Rattle.eif_valid_bodies.proofs.Declarations.{class_valid, numbered_valid}
use Rattle.eif_valid_bodies.proofs.no_fault_in_bodies.Goals as goal

pub returns : goal.returns
returns c = record { class = class_valid; given = numbered_valid }
