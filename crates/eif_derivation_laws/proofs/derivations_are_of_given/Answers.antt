use Rattle.eif_derivation_laws.proofs.Given.{found_broken, broken_found}
use Rattle.eif_derivation_laws.proofs.derivations_are_of_given.Goals as goal

pub returns : goal.returns
returns c = λ given root sound order is f.
    (found_broken given root sound order is f, broken_found given root sound order is f)
