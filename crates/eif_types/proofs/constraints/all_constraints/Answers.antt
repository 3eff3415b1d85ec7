use Rattle.eif_derivations.proofs.Systems.{few_in_tree}
use Rattle.eif_tree.specs.View.{class_view}
use Rattle.eif_types.proofs.Turns.{one_listed}
use Rattle.eif_types.specs.TypeTables as tables
use Rattle.eif_universe.specs.Universes.{classes_of}
use Rattle.eif_types.proofs.constraints.all_constraints.Goals as goal

pub constraints_of-requires : goal.constraints_of-requires
constraints_of-requires c =
    few_in_tree (classes_of c.args.u.now) c.requires c.classes.number c.tree.result.now c.tree.ensures

pub classes-preserved : goal.classes-preserved
classes-preserved c =
    let u = classes_of c.args.u.now in
    one_listed _ (tables.constraints_of u) c.classes.all.items c.push.new.self.items u c.classes.number
    c.in_ok-constraints_of.field-0 (class_view c.tree.result.now) c.tree.ensures c.in_ok-push.ensures.items
    c.in_ok-constraints_of.ensures c.classes.invariant
