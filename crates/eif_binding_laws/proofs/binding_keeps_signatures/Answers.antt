use Rattle.std.proofs.Common.{◌∙◌, ap, ap₂, Some}
use Rattle.eif_system.specs.Universe.{universe}
use Rattle.eif_binding_laws.proofs.Keeping.{kept}
use Rattle.eif_binding_laws.proofs.Settings.{order_of, signed_setting, signature_of}
use Rattle.eif_binding_laws.proofs.binding_keeps_signatures.Goals as goal

pub returns-clause-signatures : goal.returns-clause-signatures
returns-clause-signatures c = λ given root is d k m n xs s gives signed bound.
    let w = kept (universe given) (order_of given root is.derived) (signed_setting given root is) d k m n xs s gives signed bound in
    (w.theirs, w.signed, w.stands)

pub returns-clause-fields : goal.returns-clause-fields
returns-clause-fields c = λ given root is d k m n xs s g gives signed found field bound.
    let w = kept (universe given) (order_of given root is.derived) (signed_setting given root is) d k m n xs s gives signed bound in
    let f = w.field g found field in
    (w.here, w.found, f.0, w.signed ∙ ap Some (ap₂ signature_of w.stands.arguments f.1))
