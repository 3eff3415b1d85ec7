use Rattle.eif_plain_systems.proofs.Systems as systems
use Rattle.eif_plain_systems.proofs.plain_systems_are_valid.Goals as goal

pub returns : goal.returns
returns c = λ given root never. systems.valid_system given root never
