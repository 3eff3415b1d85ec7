use Rattle.std.proofs.Common.{[], map}
use Rattle.eif_tree.specs.View.{parent_view}
use Rattle.eif_adapt.specs.Adaptations.{feature_view}
use Rattle.eif_adapt.specs.Parts.{part_faults}
use Rattle.eif_adapt.proofs.Judged.{nothing_judged}
use Rattle.eif_adapt.proofs.clause.Clause.push_list_faults.Goals as goal

pub returns : goal.returns
returns c =
    let clause = c.args.self.now in
    let judge = part_faults c.args.part clause.class_name.now (parent_view clause.indexed.tree.now)
    (map feature_view clause.features.now) in
    let start = nothing_judged judge c.args.out.now c.new-earlier.result c.new-earlier.ensures in
    (c.in_ok-judge_names.ensures c.args.out.now [] start).faults
