use Rattle.std.proofs.Common.{List, [], ◌∷◌, map, take, refl, sym, subst, arith}
use Rattle.std.proofs.lemmas.List.{append-nil, map-append}
use Rattle.eif_tree.specs.declared.class.ExportItem.{ExportItem}
use Rattle.eif_tree.specs.Tree.{ExportT}
use Rattle.eif_tree.specs.View.{export_view}
use Rattle.eif_adapt.specs.Parts.{AreAllsJudged}
use Rattle.eif_adapt.proofs.OneOn.{one_on, at_end}
use Rattle.eif_adapt.proofs.clause.Clause.push_faults_of_alls.Goals as goal

pub exports-init : goal.exports-init
exports-init c = record { faults = sym (append-nil c.args.out.now); has_all = refl }

pub exports-preserved : goal.exports-preserved
exports-preserved c =
    let class = c.args.self.now.class_name.now in
    let old = c.args.out.now in
    let exports = c.args.exports.now in
    let i = c.exports.item-index in
    let x = c.item-item.result in
    let out = c.judge_all.new.out in
    let found = c.in_ok-has_all.has_all in
    one_on (λ (xs : List ExportItem). AreAllsJudged class old out found (map export_view xs)) exports i x
    c.exports-test.true c.item-item.is
    (subst (λ (xs : List ExportT). AreAllsJudged class old out found xs)
    (sym (map-append export_view (take i exports) (x ∷ [])))
    (c.in_ok-has_all.ensures old (map export_view (take i exports)) c.exports.invariant))

pub returns : goal.returns
returns c =
    let class = c.args.self.now.class_name.now in
    let all = at_end
    (λ (xs : List ExportItem). AreAllsJudged class c.args.out.now c.exports.out c.exports.has_all (map export_view xs))
    c.args.exports.now c.exports.item-index (omega arith) c.exports.invariant in
    all.faults
