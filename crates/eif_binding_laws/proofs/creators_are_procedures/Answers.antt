use Rattle.eif_binding_laws.proofs.Creating.{creators_procedures, default_bound, root_creator}
use Rattle.eif_binding_laws.proofs.creators_are_procedures.Goals as goal

pub returns-clause-creators : goal.returns-clause-creators
returns-clause-creators c = λ given root is d i x among. creators_procedures given root is d i x among

pub returns-clause-default : goal.returns-clause-default
returns-clause-default c = λ given root is d x at. default_bound given root is d x at

pub returns-clause-root : goal.returns-clause-root
returns-clause-root c = λ given root is i number. root_creator given root is i number
