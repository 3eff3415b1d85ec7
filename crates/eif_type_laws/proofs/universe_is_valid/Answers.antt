use Rattle.eif_type_laws.proofs.ValidUniverses as valid
use Rattle.eif_type_laws.proofs.universe_is_valid.Goals as goal

pub returns-clause-defined : goal.returns-clause-defined
returns-clause-defined c = λ given root never underived d k h. valid.defined given root never underived d k h

pub returns-clause-clauses : goal.returns-clause-clauses
returns-clause-clauses c =
    λ given root never underived d x at i p among k names.
    valid.clauses_valid given root never underived d x at i p among k names

pub returns-clause-types : goal.returns-clause-types
returns-clause-types c =
    λ given root never underived d x at i w among j t inside.
    valid.written_valid given root never underived d x at i w among j t inside

pub returns-clause-constraints : goal.returns-clause-constraints
returns-clause-constraints c = λ given root never underived d e. valid.constraints_valid given root never underived d e
