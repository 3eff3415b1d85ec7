use Rattle.std.proofs.Common.{ℕ}
use Rattle.eif_feature_rules.specs.DerivationRules.{written_actual_faults}
use Rattle.eif_tree.specs.Tree.{ClassT}
use Rattle.eif_tree.specs.View.{class_view}
use Rattle.eif_types.proofs.Turns.{one_judged}
use Rattle.eif_universe.specs.Universes.{classes_of}
use Rattle.eif_types.proofs.build.push_actual_faults.Goals as goal

pub classes-preserved : goal.classes-preserved
classes-preserved c =
    let u = classes_of c.args.u.now in
    one_judged (λ (x : ℕ × ClassT). written_actual_faults u x.0 x.1) u c.classes.number (class_view c.tree.result.now)
    c.classes.out c.push_faults.new.out _ c.tree.ensures c.in_ok-push_faults.ensures c.classes.invariant
