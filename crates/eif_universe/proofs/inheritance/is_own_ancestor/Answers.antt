use Rattle.std.proofs.Common.{sym}
use Rattle.eif_system.specs.Inheritance.{graph_of}
use Rattle.eif_tree.specs.View.{class_view, parent_view}
use Rattle.eif_universe.specs.ClassesView.{classes_view}
use Rattle.eif_universe.proofs.Reaching.{own_by, own_by_none, parent_within}
use Rattle.eif_universe.proofs.inheritance.is_own_ancestor.Goals as goal

pub reaches-requires : goal.reaches-requires
reaches-requires c = parent_within (classes_view c.args.classes.now) (class_view c.args.class.now)
    (parent_view c.args.clause.now) c.in-Some.parent c.args.ancestors.now c.requires (sym c.in-Some.ensures)

pub returns-in-Some : goal.returns-in-Some
returns-in-Some c = own_by (classes_view c.args.classes.now) c.args.d c.in-Some.parent _ c.reaches.result
    (sym c.in-Some.ensures) (c.reaches.ensures (graph_of (classes_view c.args.classes.now)) c.requires)

pub returns-in-None : goal.returns-in-None
returns-in-None c = own_by_none (classes_view c.args.classes.now) c.args.d _ (sym c.in-None.ensures)
