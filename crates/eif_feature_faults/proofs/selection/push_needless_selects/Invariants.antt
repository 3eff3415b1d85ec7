use Rattle.std.proofs.Common.{take}
use Rattle.eif_adapt.specs.Parts.{AreJudged}
use Rattle.eif_tree.specs.View.{class_view}
use Rattle.eif_feature_faults.specs.Selected.{needless_by}
use Rattle.eif_feature_faults.proofs.selection.push_needless_selects.Given as goal

abbrev pub invariant-selects : goal.invariant-selects
invariant-selects l =
    AreJudged (needless_by (class_view l.class) l.choice l.finals) l.initial.out l.out l.earlier
    (take l.name-index l.selects)
