use Rattle.std.proofs.Common.{List, take, arith}
use Rattle.eif_adapt.specs.Parts.{AreJudged}
use Rattle.eif_adapt.proofs.Judged.{name_judged, nothing_judged}
use Rattle.eif_adapt.proofs.OneOn.{one_on, at_end}
use Rattle.eif_feature_rules.specs.FeatureRules.{undeclared_redefine}
use Rattle.eif_tree.specs.View.{class_view}
use Rattle.eif_tree.specs.declared.tree.NameAt.{NameAt}
use Rattle.eif_heirs.proofs.redefines.DeclaringClass.push_undeclared_redefines.Goals as goal

pub names-init : goal.names-init
names-init c =
    nothing_judged (undeclared_redefine (class_view c.args.self.now.tree.now) c.args.finals.now) c.args.out.now
    c.new-earlier.result c.new-earlier.ensures

pub names-preserved : goal.names-preserved
names-preserved c =
    let judge = undeclared_redefine (class_view c.args.self.now.tree.now) c.args.finals.now in
    let names = c.args.redefines.now in
    let i = c.names.name-index in
    let x = c.name-item.result in
    one_on (λ (ns : List NameAt). AreJudged judge c.args.out.now c.push_undeclared_redefine.new.out c.insert.new.self ns)
    names i x c.names-test.true c.name-item.is
    (name_judged judge c.args.out.now c.names.out c.push_undeclared_redefine.new.out c.names.earlier c.insert.new.self
    (take i names) x (c.in_ok-push_undeclared_redefine.ensures (take i names) c.names.invariant.set)
    c.in_ok-insert.ensures.has c.names.invariant)

pub returns : goal.returns
returns c =
    let judge = undeclared_redefine (class_view c.args.self.now.tree.now) c.args.finals.now in
    let all = at_end (λ (ns : List NameAt). AreJudged judge c.args.out.now c.names.out c.names.earlier ns)
    c.args.redefines.now c.names.name-index (omega arith) c.names.invariant in
    all.faults
