use Rattle.eif_system.specs.Universe.{universe}
use Rattle.eif_binding_laws.proofs.Settings.{order_of, signed_setting}
use Rattle.eif_binding_laws.proofs.Versions.{precursor_serves}
use Rattle.eif_binding_laws.proofs.precursors_serve.Goals as goal

pub returns : goal.returns
returns c = λ given root is d n parent s h.
    precursor_serves (universe given) (order_of given root is.derived) (signed_setting given root is) d n parent s h
