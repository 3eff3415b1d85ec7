use Rattle.eif_system.specs.Universe.{universe}
use Rattle.eif_lineage_laws.proofs.WholeClasses.{has_order}
use Rattle.eif_binding_laws.proofs.Bound.{unbound, names_bound}
use Rattle.eif_binding_laws.proofs.FineClasses.{fine_features}
use Rattle.eif_binding_laws.proofs.names_are_bound.Goals as goal

pub returns-clause-unnamed : goal.returns-clause-unnamed
returns-clause-unnamed c = λ given root is d k m no.
    let order = has_order given root is.universe in
    unbound (universe given) order.0 order.1 k m no d

pub returns-clause-named : goal.returns-clause-named
returns-clause-named c = λ given root is d k m down has.
    let order = has_order given root is.universe in
    names_bound (universe given) order.0 order.1 (λ d c at. (fine_features given root is d c at).decided) d k m down has
