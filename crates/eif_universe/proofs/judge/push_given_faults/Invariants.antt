use Rattle.std.proofs.Common.{◌+◌, map, take}
use Rattle.eif_base.specs.Appends.{Appends, SomeOf}
use Rattle.eif_rules.specs.UniverseRules.{ClassBroken}
use Rattle.eif_system.specs.Kernel.{kernel_count}
use Rattle.eif_tree.specs.View.{class_view}
use Rattle.eif_universe.specs.ClassesView.{classes_view}
use Rattle.eif_universe.proofs.judge.push_given_faults.Given as goal

abbrev pub invariant-classes : goal.invariant-classes
invariant-classes l =
    Appends l.initial.out l.out (SomeOf (take l.i (map class_view l.given))
    (λ i c f. ClassBroken (classes_view l.classes) (kernel_count + i) c f))
