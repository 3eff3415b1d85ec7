use Rattle.std.proofs.Common.{List, ◌++◌, map, take}
use Rattle.eif_base.specs.declared.fault.Fault.{Fault}
use Rattle.eif_tree.specs.declared.tree.NameAt.{NameAt}
use Rattle.eif_tree.specs.View.{parent_view}
use Rattle.eif_adapt.specs.Adaptations.{feature_view}
use Rattle.eif_adapt.specs.Parts.{part_faults, AreJudged}
use Rattle.eif_adapt.proofs.clause.Clause.judge_names.Given as goal

abbrev pub invariant-names : goal.invariant-names
invariant-names l =
    let judge = part_faults l.part l.self.class_name.now (parent_view l.self.indexed.tree.now)
    (map feature_view l.self.features.now) in
    (old : List Fault) (before : List NameAt) → AreJudged judge old l.initial.out l.initial.earlier before
    → AreJudged judge old l.out l.earlier (before ++ take l.name-index l.names)
