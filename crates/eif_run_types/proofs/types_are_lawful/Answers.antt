use Rattle.eif_run_types.proofs.LawfulTypes as types
use Rattle.eif_run_types.proofs.types_are_lawful.Goals as goal

pub returns : goal.returns
returns c = λ u order is defined valid kernel. (types.laws u order is defined kernel, types.open_laws u order is defined valid)
