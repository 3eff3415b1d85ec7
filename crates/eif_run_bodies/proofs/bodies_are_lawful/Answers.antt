use Rattle.eif_run_bodies.proofs.LawfulBodies.{laws}
use Rattle.eif_run_bodies.proofs.bodies_are_lawful.Goals as goal

pub returns : goal.returns
returns c = λ given root spelled is none. laws given root spelled is none
