use Rattle.std.proofs.Common.{ℕ, List, map, sym, ap, subst, ◌∙◌}
use Rattle.eif_ancestry.specs.Ancestries.{number_graph}
use Rattle.eif_rules.specs.UniverseRules.{UniverseBroken}
use Rattle.eif_system.specs.Graph.{HasNoCycle, IsClosed}
use Rattle.eif_tree.specs.View.{class_view}
use Rattle.eif_universe.specs.Universes.{given_in}
use Rattle.eif_universe.proofs.NoCircle.{no_circle_in}
use Rattle.eif_universe.proofs.ParentNumbers.{graph_of-closed}
use Rattle.eif_universe.proofs.Told.{none_has}
use Rattle.eif_universe.proofs.judge.check.Goals as goal

pub inheritance_order-requires-clause-closed : goal.inheritance_order-requires-clause-closed
inheritance_order-requires-clause-closed c =
    let u = map class_view c.args.trees.now in
    subst (λ (g : List (List ℕ)). IsClosed g)
    (sym (ap number_graph c.deref.ensures.value ∙ c.in_ok-numbers.ensures.graph_is)) (graph_of-closed u)

pub inheritance_order-requires-clause-cycle : goal.inheritance_order-requires-clause-cycle
inheritance_order-requires-clause-cycle c =
    let u = map class_view c.args.trees.now in
    subst (λ (g : List (List ℕ)). HasNoCycle g)
    (sym (ap number_graph c.deref.ensures.value ∙ c.in_ok-numbers.ensures.graph_is))
    (no_circle_in u c.args.root.now c.requires.kernel
    (none_has c.in_ok-numbers.field-0.faults (UniverseBroken (given_in u) c.args.root.now)
    (c.is_empty.ensures.0 c.if-not-is_empty.false) c.in_ok-numbers.ensures.faults_are))

pub returns-clause-sound : goal.returns-clause-sound
returns-clause-sound c =
    none_has c.in_ok-numbers.field-0.faults
    (UniverseBroken (given_in (map class_view c.args.trees.now)) c.args.root.now)
    (c.is_empty.ensures.0 c.if-not-is_empty.false) c.in_ok-numbers.ensures.faults_are
