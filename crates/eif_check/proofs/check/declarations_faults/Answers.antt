use Rattle.std.proofs.Common.{List, subst}
use Rattle.std.proofs.lemmas.Result.{IfOk-weaker}
use Rattle.eif_base.specs.Appends.{Has}
use Rattle.eif_feature_rules.specs.FeaturePhases.{SignaturesBroken}
use Rattle.eif_system_rules.specs.SystemRules.{BodiesBroken}
use Rattle.eif_tree.specs.Tree.{ClassT}
use Rattle.eif_universe.proofs.Told.{none_has}
use Rattle.eif_universe.specs.Universes.{classes_of, given_in}
use Rattle.eif_check.proofs.Phases.{first_has, later_has, not_empty}
use Rattle.eif_check.proofs.check.declarations_faults.Goals as goal

pub returns-then-not-is_empty : goal.returns-then-not-is_empty
returns-then-not-is_empty g c =
    let w = c.args.work.now in
    let given = given_in (classes_of w.universe.now) in
    let list = c.in_ok-faults.faults in
    first_has list (SignaturesBroken given w.root.now) (BodiesBroken given)
    (not_empty c.is_empty.result list c.is_empty.ensures.1 c.if-not-is_empty.true) c.in_ok-faults.ensures

pub returns : goal.returns
returns g c =
    let w = c.args.work.now in
    let given = given_in (classes_of w.universe.now) in
    let signatures = SignaturesBroken given w.root.now in
    let none = none_has c.in_ok-faults.faults signatures (c.is_empty.ensures.0 c.if-not-is_empty.false)
    c.in_ok-faults.ensures in
    IfOk-weaker c.bodies_faults.result _ _
    (λ list has. later_has list signatures (BodiesBroken given) none
    (subst (λ (cs : List ClassT). Has list (BodiesBroken cs)) c.given.ensures has))
    c.bodies_faults.ensures
