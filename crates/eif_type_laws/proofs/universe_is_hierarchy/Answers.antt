use Rattle.eif_type_laws.proofs.WholeUniverses.{hierarchy, written_of}
use Rattle.eif_type_laws.proofs.universe_is_hierarchy.Goals as goal

pub returns-clause-hierarchy : goal.returns-clause-hierarchy
returns-clause-hierarchy c = λ given root never order is. hierarchy given root never order is

pub returns-clause-types : goal.returns-clause-types
returns-clause-types c =
    λ given root never d x at i w among j t inside. written_of given root never d x at i w among j t inside
