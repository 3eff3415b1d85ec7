use Rattle.std.proofs.Common.{List, map, take}
use Rattle.eif_adapt.proofs.Judged.{name_judged}
use Rattle.eif_adapt.specs.Parts.{AreJudged}
use Rattle.eif_feature_rules.specs.CreatorRules.{creator_faults_by}
use Rattle.eif_redecl.proofs.Turns.{one_on_map}
use Rattle.eif_signatures.specs.DerivedSystems.{classes_in}
use Rattle.eif_system.specs.Lineage.{line_of}
use Rattle.eif_tree.specs.View.{class_view}
use Rattle.eif_tree.specs.declared.tree.NameAt.{NameAt}
use Rattle.eif_redecl.proofs.entry.Heir.push_each_creator.Goals as goal

pub names-preserved : goal.names-preserved
names-preserved c =
    let h = c.args.self.now in
    let u = classes_in h.system in
    let judge = creator_faults_by u (class_view h.class.now) (line_of u h.class_id.0) in
    let i = c.names.name-index in
    let x = c.name-item.result in
    let out = c.push_creator_faults.new.out in
    let more = c.insert.new.self in
    one_on_map (λ n. n.now) (λ (ns : List NameAt). AreJudged judge c.args.out.now out more ns) c.args.names.now i x
    c.names-test.true c.name-item.is
    (name_judged judge c.args.out.now c.names.out out c.names.earlier more (take i (map (λ n. n.now) c.args.names.now))
    x.now (c.in_ok-push_creator_faults.ensures (take i (map (λ n. n.now) c.args.names.now)) c.names.invariant.set)
    c.in_ok-insert.ensures.has c.names.invariant)
