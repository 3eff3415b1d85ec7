use Rattle.eif_system.specs.Universe.{universe}
use Rattle.eif_binding_laws.specs.Signatures.{IsTypeOf}
use Rattle.eif_binding_laws.proofs.Formed.{version, signature_types, of_types}
use Rattle.eif_binding_laws.proofs.Settings.{order_of, setting}
use Rattle.eif_binding_laws.proofs.Signing.{all_signed}
use Rattle.eif_binding_laws.proofs.signatures_are_declared.Goals as goal

pub returns-clause-declared : goal.returns-clause-declared
returns-clause-declared c = λ given root is d n f found.
    all_signed (universe given) (order_of given root is) (setting given root is) d n f found

pub returns-clause-formed : goal.returns-clause-formed
returns-clause-formed c = λ given root is d n s signed.
    of_types (IsTypeOf (universe given) d) s
    (signature_types (universe given) (order_of given root is) (setting given root is) d n s signed)

pub returns-clause-versions : goal.returns-clause-versions
returns-clause-versions c = λ given root is d x at effective n f found.
    version (universe given) (order_of given root is) (setting given root is) d x at effective n f found
