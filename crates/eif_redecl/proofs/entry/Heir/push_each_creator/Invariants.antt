use Rattle.std.proofs.Common.{map, take}
use Rattle.eif_adapt.specs.Parts.{AreJudged}
use Rattle.eif_feature_rules.specs.CreatorRules.{creator_faults_by}
use Rattle.eif_signatures.specs.DerivedSystems.{classes_in}
use Rattle.eif_system.specs.Lineage.{line_of}
use Rattle.eif_tree.specs.View.{class_view}
use Rattle.eif_redecl.proofs.entry.Heir.push_each_creator.Given as goal

abbrev pub invariant-names : goal.invariant-names
invariant-names l =
    let u = classes_in l.self.system in
    AreJudged (creator_faults_by u (class_view l.self.class.now) (line_of u l.self.class_id.0)) l.initial.out l.out
    l.earlier (take l.name-index (map (λ n. n.now) l.names))
