use Rattle.std.proofs.Common.{◌≡◌, ◌++◌, sym, subst}
use Rattle.std.proofs.lemmas.Result.{IfOk-weaker}
use Rattle.eif_feature_rules.specs.FeatureRules.{adaptation_faults}
use Rattle.eif_feature_rules.specs.RuleForms.{each_clause}
use Rattle.eif_heirs.specs.Clauses.{ups_in}
use Rattle.eif_tree.specs.View.{class_view}
use Rattle.eif_tree.specs.declared.class.ClassTree.{ClassTree}
use Rattle.eif_universe.specs.Universes.{classes_of}
use Rattle.eif_class_rows.proofs.judged.heir_of.Goals as goal

pub returns-clause-heir : goal.returns-clause-heir
returns-clause-heir c = IfOk-weaker c.of.result _ _
    (λ h is. is (classes_of c.args.u.now) c.requires.system c.tree.ensures
    (c.in_ok-clauses.ensures.clauses (class_view c.tree.result.now) c.tree.ensures))
    c.of.ensures.heir

pub returns-clause-faults : goal.returns-clause-faults
returns-clause-faults c = IfOk-weaker c.of.result _ _
    (λ h e. subst (λ (t : ClassTree). c.adapted_clauses.new.out ≡ c.args.out.now
    ++ each_clause (adaptation_faults (class_view t)) (ups_in (classes_of c.args.u.now) (class_view t))) (sym e)
    (c.in_ok-clauses.ensures.faults (class_view c.tree.result.now) c.tree.ensures))
    c.of.ensures.tree
