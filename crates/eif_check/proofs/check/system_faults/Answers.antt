use Rattle.std.proofs.Common.{◌≡◌, List, map, drop, sym, ap, subst, ◌∙◌}
use Rattle.std.proofs.lemmas.Result.{IfOk-weaker}
use Rattle.eif_rules.specs.FaultForms.{IsNone}
use Rattle.eif_system_rules.specs.SystemRules.{ClassesBroken, SystemBroken}
use Rattle.eif_rules.specs.UniverseRules.{UniverseBroken}
use Rattle.eif_base.specs.Appends.{Has}
use Rattle.eif_system.specs.Kernel.{kernel_count}
use Rattle.eif_tree.specs.Tree.{ClassT}
use Rattle.eif_tree.specs.View.{class_view}
use Rattle.eif_universe.specs.Refusals.{IsErrorOf, Lists}
use Rattle.eif_universe.specs.Universes.{classes_of, given_in}
use Rattle.eif_check.proofs.Phases.{first_has, given_classes, later_has}
use Rattle.eif_check.proofs.check.system_faults.Goals as goal

pub classes_faults-requires-clause-system : goal.classes_faults-requires-clause-system
classes_faults-requires-clause-system g c κs within =
    record {
      given = map class_view c.args.given.items;
      root = c.args.root.now;
      is = c.in-Ok.ensures.ok;
      sound = c.in-Ok.ensures.sound;
    }

pub classes_faults-requires-clause-sound : goal.classes_faults-requires-clause-sound
classes_faults-requires-clause-sound g c κs within =
    let given = map class_view c.args.given.items in
    let same : given_in (classes_of c.in-Ok.universe) ≡ given =
    ap (λ (cs : List ClassT). drop kernel_count cs) c.in-Ok.ensures.ok ∙ given_classes given in
    subst (λ (cs : List ClassT). IsNone (UniverseBroken cs c.args.root.now)) (sym same) c.in-Ok.ensures.sound

pub returns-in-Ok : goal.returns-in-Ok
returns-in-Ok g c =
    let given = map class_view c.args.given.items in
    let same : given_in (classes_of c.in-Ok.universe) ≡ given =
    ap (λ (cs : List ClassT). drop kernel_count cs) c.in-Ok.ensures.ok ∙ given_classes given in
    IfOk-weaker c.classes_faults.result _ _
    (λ list has. later_has list (UniverseBroken given c.args.root.now) (ClassesBroken given c.args.root.now)
    c.in-Ok.ensures.sound (subst (λ (cs : List ClassT). Has list (ClassesBroken cs c.args.root.now)) same has))
    c.classes_faults.ensures

pub returns-in-Err-Faults : goal.returns-in-Err-Faults
returns-in-Err-Faults g c =
    let given = map class_view c.args.given.items in
    let broken = UniverseBroken given c.args.root.now in
    let list = c.in-Err-Faults.faults in
    let lists : Lists list broken =
    subst (λ r. IsErrorOf broken r) c.in-Err-Faults.field-0-is c.in-Err-Faults.ensures.faults in
    subst (λ faults. Has faults (SystemBroken given c.args.root.now)) (sym c.in-Err-Faults.faults-is)
    (first_has list broken (ClassesBroken given c.args.root.now) lists.some lists.has)
