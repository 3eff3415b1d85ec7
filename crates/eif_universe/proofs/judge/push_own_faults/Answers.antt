use Rattle.eif_base.specs.Appends.{In}
use Rattle.eif_base.proofs.Adding.{adds_list}
use Rattle.eif_rules.specs.UniverseRules.{text_faults}
use Rattle.eif_tree.specs.View.{class_view}
use Rattle.eif_universe.specs.ClassesView.{classes_view}
use Rattle.eif_universe.specs.Universes.{InheritanceBroken}
use Rattle.eif_universe.proofs.Told.{adds_either}
use Rattle.eif_universe.proofs.judge.push_own_faults.Goals as goal

pub returns : goal.returns
returns c =
    let u = classes_view c.args.classes.now in
    let judged = class_view c.args.class.now in
    adds_either c.args.out.now c.push_text_faults.new.out c.push_inheritance_faults.new.out (In (text_faults u judged))
    (InheritanceBroken u c.args.d judged)
    (adds_list c.args.out.now c.push_text_faults.new.out (text_faults u judged) c.in_ok-push_text_faults.ensures)
    c.in_ok-push_inheritance_faults.ensures
