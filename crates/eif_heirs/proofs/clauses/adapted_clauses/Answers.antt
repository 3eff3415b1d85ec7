use Rattle.std.proofs.Common.{◌++◌, List, map, ap, ◌∙◌}
use Rattle.eif_base.specs.declared.fault.Fault.{Fault}
use Rattle.eif_feature_rules.specs.FeatureRules.{adaptation_faults}
use Rattle.eif_heirs.proofs.AdaptedInTurn.{each_clause_is}
use Rattle.eif_heirs.proofs.ParentsNamed.{all_adapted}
use Rattle.eif_system.specs.Inheritance.{clauses, parent_number}
use Rattle.eif_system.specs.Lineage.{line_by, line_of}
use Rattle.eif_tree.specs.View.{class_view, parent_view}
use Rattle.eif_universe.specs.Universes.{classes_of}
use Rattle.eif_heirs.proofs.clauses.adapted_clauses.Goals as goal

pub returns-clause-clauses : goal.returns-clause-clauses
returns-clause-clauses c = λ k here.
    let all = all_adapted (classes_of c.args.u.now) c.requires.system c.args.class_id.0 (class_view c.tree-tree.result.now)
    (class_view c.in_ok-class.class.tree.now) k c.tree-tree.ensures (ap class_view c.in_ok-class.ensures) c.args.rows.now
    c.requires.rows c.parents.result.now c.parents.ensures (map parent_view c.clauses_of-trees.result.now)
    c.clauses_of-trees.ensures c.args.out.now c.adapted_over.new.out c.in_ok-clauses.clauses.items c.in_ok-clauses.ensures here in
    all.clauses_are

pub returns-clause-faults : goal.returns-clause-faults
returns-clause-faults c = λ k here.
    let u = classes_of c.args.u.now in
    let all = all_adapted u c.requires.system c.args.class_id.0 (class_view c.tree-tree.result.now)
    (class_view c.in_ok-class.class.tree.now) k c.tree-tree.ensures (ap class_view c.in_ok-class.ensures) c.args.rows.now
    c.requires.rows c.parents.result.now c.parents.ensures (map parent_view c.clauses_of-trees.result.now)
    c.clauses_of-trees.ensures c.args.out.now c.adapted_over.new.out c.in_ok-clauses.clauses.items c.in_ok-clauses.ensures here in
    all.faults_are
    ∙ ap (λ (fs : List Fault). c.args.out.now ++ fs)
    (each_clause_is (adaptation_faults k) (λ p. line_by (line_of u) (parent_number u k p)) (clauses k))
