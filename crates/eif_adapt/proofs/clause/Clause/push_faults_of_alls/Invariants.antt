use Rattle.std.proofs.Common.{map, take}
use Rattle.eif_tree.specs.View.{export_view}
use Rattle.eif_adapt.specs.Parts.{AreAllsJudged}
use Rattle.eif_adapt.proofs.clause.Clause.push_faults_of_alls.Given as goal

abbrev pub invariant-exports : goal.invariant-exports
invariant-exports l =
    AreAllsJudged l.self.class_name.now l.initial.out l.out l.has_all (map export_view (take l.item-index l.exports))
