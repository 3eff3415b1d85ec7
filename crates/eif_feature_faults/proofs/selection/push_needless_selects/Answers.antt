use Rattle.std.proofs.Common.{List, take}
use Rattle.eif_adapt.specs.Parts.{AreJudged}
use Rattle.eif_adapt.proofs.Judged.{name_judged}
use Rattle.eif_adapt.proofs.OneOn.{one_on}
use Rattle.eif_tree.specs.declared.tree.NameAt.{NameAt}
use Rattle.eif_tree.specs.View.{class_view}
use Rattle.eif_feature_faults.specs.Selected.{needless_by}
use Rattle.eif_feature_faults.proofs.selection.push_needless_selects.Goals as goal

pub selects-preserved : goal.selects-preserved
selects-preserved c =
    let judge = needless_by (class_view c.args.class.now) c.args.choice.now c.args.finals.now in
    let names = c.args.selects.now in
    let i = c.selects.name-index in
    let x = c.name-item.result in
    let out = c.push_needless_select.new.out in
    one_on (λ (ns : List NameAt). AreJudged judge c.args.out.now out c.insert.new.self ns) names i x c.selects-test.true
    c.name-item.is
    (name_judged judge c.args.out.now c.selects.out out c.selects.earlier c.insert.new.self (take i names) x
    (c.in_ok-push_needless_select.ensures (take i names) c.selects.invariant.set) c.in_ok-insert.ensures.has
    c.selects.invariant)
