use Rattle.std.proofs.Common.{sym, ap, subst, ◌∙◌}
use Rattle.std.proofs.lemmas.Result.{IfOk-weaker}
use Rattle.eif_base.specs.Appends.{Has}
use Rattle.eif_feature_rules.specs.FeaturePhases.{DerivationsBroken}
use Rattle.eif_system_rules.specs.SystemRules.{DeclarationsBroken, TypesBroken}
use Rattle.eif_types.specs.TypeTables.{IsErrorOf}
use Rattle.eif_universe.specs.Refusals.{Lists}
use Rattle.eif_universe.specs.Universes.{classes_of, given_in}
use Rattle.eif_check.proofs.GivenInTurn.{derived_given}
use Rattle.eif_check.proofs.Phases.{first_has, later_has}
use Rattle.eif_check.proofs.check.types_faults.Goals as goal

pub declarations_faults-requires-clause-derived : goal.declarations_faults-requires-clause-derived
declarations_faults-requires-clause-derived g c κs within =
    derived_given (classes_of c.args.universe.now) c.args.tables.now c.in-Ok.types c.args.root.now c.requires.system
    c.requires.sound c.requires.features c.in-Ok.ensures.sound c.requires.tables c.in-Ok.ensures.types

pub returns-in-Ok : goal.returns-in-Ok
returns-in-Ok g c =
    let given = given_in (classes_of c.args.universe.now) in
    IfOk-weaker c.declarations_faults.result _ _
    (λ list has. later_has list (DerivationsBroken given) (DeclarationsBroken given c.args.root.now)
    c.in-Ok.ensures.sound has)
    c.declarations_faults.ensures

pub returns-in-Err-Faults : goal.returns-in-Err-Faults
returns-in-Err-Faults g c =
    let given = given_in (classes_of c.args.universe.now) in
    let broken = DerivationsBroken given in
    let list = c.in-Err-Faults.faults in
    let lists : Lists list broken =
    subst (λ r. IsErrorOf broken r) c.in-Err-Faults.field-0-is c.in-Err-Faults.ensures.faults in
    subst (λ faults. Has faults (TypesBroken given c.args.root.now)) (sym c.in-Err-Faults.faults-is)
    (first_has list broken (DeclarationsBroken given c.args.root.now) lists.some lists.has)
