use Rattle.eif_type_laws.proofs.Closed.{closed_anywhere, closed_valid, closed_substituted}
use Rattle.eif_type_laws.proofs.closed_types.Goals as goal

pub returns-clause-conformance : goal.returns-clause-conformance
returns-clause-conformance c = λ u d a b p q. closed_anywhere u d a b p q

pub returns-clause-validity : goal.returns-clause-validity
returns-clause-validity c = λ u order is d e t p v. closed_valid u order is d e t p v

pub returns-clause-substitution : goal.returns-clause-substitution
returns-clause-substitution c =
    λ u order is defined k d xs are meet a b p q h. closed_substituted u order is defined k d xs are meet a b p q h
