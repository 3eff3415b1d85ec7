use Rattle.eif_run_features.proofs.LawfulFeatures as features
use Rattle.eif_run_features.proofs.features_are_lawful.Goals as goal

pub returns : goal.returns
returns c = λ given root spelled is types. features.laws given root spelled is types
