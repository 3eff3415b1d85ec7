use Rattle.eif_system.specs.Universe.{universe}
use Rattle.eif_binding_laws.proofs.Keeping.{served}
use Rattle.eif_binding_laws.proofs.Settings.{order_of, signed_setting}
use Rattle.eif_binding_laws.proofs.names_are_served.Goals as goal

pub returns : goal.returns
returns c = λ given root is d x at effective k m xs s gives signed.
    served (universe given) (order_of given root is.derived) (signed_setting given root is) d x at effective k m xs s gives signed
