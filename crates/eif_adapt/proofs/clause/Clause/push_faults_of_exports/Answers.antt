use Rattle.std.proofs.Common.{◌∙◌, List, ◌++◌, map, take, ap, subst, arith}
use Rattle.eif_tree.specs.declared.class.ExportItem.{ExportItem}
use Rattle.eif_tree.specs.declared.tree.NameAt.{NameAt}
use Rattle.eif_tree.specs.View.{parent_view}
use Rattle.eif_adapt.specs.Adaptations.{feature_view}
use Rattle.eif_feature_rules.specs.ClauseRules.{export_faults}
use Rattle.eif_adapt.specs.Parts.{AreJudged}
use Rattle.eif_adapt.proofs.Judged.{nothing_judged, names_in, names_in-push}
use Rattle.eif_adapt.proofs.OneOn.{one_on, at_end}
use Rattle.eif_adapt.proofs.clause.Clause.push_faults_of_exports.Goals as goal

pub exports-init : goal.exports-init
exports-init c =
    let clause = c.args.self.now in
    nothing_judged
    (export_faults clause.class_name.now (parent_view clause.indexed.tree.now) (map feature_view clause.features.now))
    c.args.out.now c.new-earlier.result c.new-earlier.ensures

pub exports-preserved : goal.exports-preserved
exports-preserved c =
    let clause = c.args.self.now in
    let judge = export_faults clause.class_name.now (parent_view clause.indexed.tree.now)
    (map feature_view clause.features.now) in
    let old = c.args.out.now in
    let exports = c.args.exports.now in
    let i = c.exports.item-index in
    let x = c.item-item.result in
    let out = c.judge_names.new.out in
    let earlier = c.judge_names.new.earlier in
    let before = names_in (take i exports) in
    one_on (λ (xs : List ExportItem). AreJudged judge old out earlier (names_in xs)) exports i x c.exports-test.true
    c.item-item.is
    (subst (λ (ns : List NameAt). AreJudged judge old out earlier ns)
    (ap (λ ns. before ++ ns) c.deref.ensures.value ∙ names_in-push (take i exports) x)
    (c.in_ok-judge_names.ensures old before c.exports.invariant))

pub returns : goal.returns
returns c =
    let clause = c.args.self.now in
    let judge = export_faults clause.class_name.now (parent_view clause.indexed.tree.now)
    (map feature_view clause.features.now) in
    let all = at_end (λ (xs : List ExportItem). AreJudged judge c.args.out.now c.exports.out c.exports.earlier (names_in xs))
    c.args.exports.now c.exports.item-index (omega arith) c.exports.invariant in
    all.faults
