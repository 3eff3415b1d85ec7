use Rattle.std.proofs.Common.{◌≡◌, ◌+◌, List, length, map, sym, ap, subst, ◌∙◌, arith}
use Rattle.eif_rules.specs.FaultForms.{IsNone}
use Rattle.eif_rules.specs.UniverseRules.{UniverseBroken}
use Rattle.eif_system.specs.Kernel.{kernel_count}
use Rattle.eif_tree.specs.Tree.{ClassT}
use Rattle.eif_tree.specs.View.{class_view}
use Rattle.eif_tree.specs.declared.class.ClassTree.{ClassTree}
use Rattle.eif_universe.specs.Refusals.{IsRefusalOf, Lists}
use Rattle.eif_universe.specs.declared.judge.Refusal.TheVariants as refusal
use Rattle.eif_universe.specs.Universes.{HasKernel, given_in}
use Rattle.eif_universe.proofs.Joining.{joined_given, joined_kernel, joined_length, joined_rest}
use Rattle.eif_universe.proofs.universe.Universe.build.Goals as goal

pub check-requires-clause-few : goal.check-requires-clause-few
check-requires-clause-few c =
    let all : length c.deref.result.now ≡ kernel_count + length c.args.given.items =
    ap length c.deref.ensures.value
    ∙ joined_length c.args.kernel.items c.args.given.items c.in-Ok.trees.items c.requires.kernel c.in-Ok.ensures.ok in
    omega arith

pub check-requires-clause-kernel : goal.check-requires-clause-kernel
check-requires-clause-kernel c =
    subst (λ (ts : List ClassTree). HasKernel (map class_view ts)) (sym c.deref.ensures.value)
    (joined_kernel c.args.kernel.items c.args.given.items c.in-Ok.trees.items c.requires.kernel c.in-Ok.ensures.ok)

pub returns-in-Ok-check-clause-sound : goal.returns-in-Ok-check-clause-sound
returns-in-Ok-check-clause-sound c =
    let given : given_in (map class_view c.deref.result.now) ≡ map class_view c.args.given.items =
    ap (λ (ts : List ClassTree). given_in (map class_view ts)) c.deref.ensures.value
    ∙ joined_given c.args.kernel.items c.args.given.items c.in-Ok.trees.items c.requires.kernel c.in-Ok.ensures.ok in
    subst (λ (ts : List ClassT). IsNone (UniverseBroken ts c.args.root.now)) given c.in-Ok-check.ensures.sound

pub without_kernel-requires : goal.without_kernel-requires
without_kernel-requires c =
    let all = joined_length c.args.kernel.items c.args.given.items c.in-Ok.trees.items c.requires.kernel
    c.in-Ok.ensures.ok in
    omega arith

pub returns-in-Err-Faults-clause-faults : goal.returns-in-Err-Faults-clause-faults
returns-in-Err-Faults-clause-faults c =
    let given : given_in (map class_view c.deref.result.now) ≡ map class_view c.args.given.items =
    ap (λ (ts : List ClassTree). given_in (map class_view ts)) c.deref.ensures.value
    ∙ joined_given c.args.kernel.items c.args.given.items c.in-Ok.trees.items c.requires.kernel c.in-Ok.ensures.ok in
    let broken = UniverseBroken (given_in (map class_view c.deref.result.now)) c.args.root.now in
    let lists : IsRefusalOf broken (refusal.Faults c.in-Err-Faults.faults) =
    subst (λ r. IsRefusalOf broken r) c.in-Err-Faults.field-0-is c.in-Err-Faults.ensures.faults in
    subst (λ (ts : List ClassT). Lists c.in-Err-Faults.faults (UniverseBroken ts c.args.root.now)) given lists

pub returns-in-Err-Faults-clause-given : goal.returns-in-Err-Faults-clause-given
returns-in-Err-Faults-clause-given c =
    ap (map class_view) (c.without_kernel.ensures
    ∙ joined_rest c.args.kernel.items c.args.given.items c.in-Ok.trees.items c.requires.kernel c.in-Ok.ensures.ok)

pub without_kernel-requires-in-Err-Memory : goal.without_kernel-requires-in-Err-Memory
without_kernel-requires-in-Err-Memory c =
    let all = joined_length c.args.kernel.items c.args.given.items c.in-Ok.trees.items c.requires.kernel
    c.in-Ok.ensures.ok in
    omega arith

pub returns-in-Err-Memory-clause-given : goal.returns-in-Err-Memory-clause-given
returns-in-Err-Memory-clause-given c =
    ap (map class_view) (c.without_kernel-in-Err-Memory.ensures
    ∙ joined_rest c.args.kernel.items c.args.given.items c.in-Ok.trees.items c.requires.kernel c.in-Ok.ensures.ok)
