use Rattle.eif_system.specs.Universe.{universe}
use Rattle.eif_system.specs.WrittenTypes.{nested, written_types}
use Rattle.eif_system.specs.Inheritance.{clauses}
use Rattle.eif_lineage_laws.specs.Universes.{IsNamed}
use Rattle.eif_lineage_laws.proofs.EachItem.{all_at}
use Rattle.eif_lineage_laws.proofs.WholeClasses as whole
use Rattle.eif_lineage_laws.proofs.universe_is_whole.Goals as goal

pub returns-clause-names : goal.returns-clause-names
returns-clause-names c = λ given root never d x at. whole.name_denotes given root never d x at

pub returns-clause-types : goal.returns-clause-types
returns-clause-types c = λ given root never d x at i w among j t inside.
    all_at (IsNamed (universe given) x) (nested w.type_tree) j t
    (all_at (whole.AreNamed (universe given) x) (written_types x) i w (whole.types_named given root never d x at) among)
    inside

pub returns-clause-parents : goal.returns-clause-parents
returns-clause-parents c = λ given root never d x at i p among.
    all_at _ (clauses x) i p (whole.parents_named given root never d x at) among

pub returns-clause-constraints : goal.returns-clause-constraints
returns-clause-constraints c = λ given root never d x at i f among t stated j s inside.
    whole.constraint_names_none x f t s j
    (all_at _ x.formals i f (whole.constraints_named given root never d x at) among)
    stated inside

pub returns-clause-order : goal.returns-clause-order
returns-clause-order c = λ given root never. whole.has_order given root never
