use Rattle.std.proofs.Common.{sym, subst}
use Rattle.std.proofs.lemmas.Result.{IfOk-weaker}
use Rattle.eif_base.specs.Appends.{Has}
use Rattle.eif_class_rows.specs.Phase.{IsErrorOf}
use Rattle.eif_feature_rules.specs.FeaturePhases.{FeaturesBroken}
use Rattle.eif_system_rules.specs.SystemRules.{ClassesBroken, TypesBroken}
use Rattle.eif_universe.specs.Refusals.{Lists}
use Rattle.eif_universe.specs.Universes.{classes_of, given_in}
use Rattle.eif_check.proofs.Phases.{first_has, later_has}
use Rattle.eif_check.proofs.check.classes_faults.Goals as goal

pub returns-in-Ok : goal.returns-in-Ok
returns-in-Ok g c =
    let given = given_in (classes_of c.args.universe.now) in
    IfOk-weaker c.types_faults.result _ _
    (λ list has. later_has list (FeaturesBroken given) (TypesBroken given c.args.root.now) c.in-Ok.ensures.sound has)
    c.types_faults.ensures

pub returns-in-Err-Faults : goal.returns-in-Err-Faults
returns-in-Err-Faults g c =
    let given = given_in (classes_of c.args.universe.now) in
    let broken = FeaturesBroken given in
    let list = c.in-Err-Faults.faults in
    let lists : Lists list broken =
    subst (λ r. IsErrorOf broken r) c.in-Err-Faults.field-0-is c.in-Err-Faults.ensures.faults in
    subst (λ faults. Has faults (ClassesBroken given c.args.root.now)) (sym c.in-Err-Faults.faults-is)
    (first_has list broken (TypesBroken given c.args.root.now) lists.some lists.has)
