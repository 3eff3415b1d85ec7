use Rattle.std.proofs.Common.{map}
use Rattle.eif_tree.specs.View.{parent_view}
use Rattle.eif_adapt.specs.Adaptations.{feature_view}
use Rattle.eif_adapt.specs.Parts.{part_faults}
use Rattle.eif_adapt.proofs.Judged.{name_judged}
use Rattle.eif_adapt.proofs.clause.Clause.judge_name.Goals as goal

pub returns : goal.returns
returns c = λ old before h.
    let clause = c.args.self.now in
    name_judged
    (part_faults c.args.part clause.class_name.now (parent_view clause.indexed.tree.now)
    (map feature_view clause.features.now))
    old c.args.out.now c.push_name_faults.new.out c.args.earlier.now c.insert.new.self before c.args.name.now
    (c.in_ok-push_name_faults.ensures before h.set) c.in_ok-insert.ensures.has h
