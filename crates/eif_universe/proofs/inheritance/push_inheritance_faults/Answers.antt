use Rattle.std.proofs.Common.{List, map, subst}
use Rattle.eif_base.specs.Appends.{Appends, SomeOf}
use Rattle.eif_rules.specs.UniverseRules.{HasManyAncestors, IsOwnAncestor}
use Rattle.eif_tree.specs.declared.class.ParentClause.{ParentClause}
use Rattle.eif_tree.specs.View.{class_view, parent_view}
use Rattle.eif_universe.specs.ClassesView.{classes_view}
use Rattle.eif_universe.proofs.Told.{adds_either}
use Rattle.eif_universe.proofs.inheritance.push_inheritance_faults.Goals as goal

pub returns : goal.returns
returns c =
    let u = classes_view c.args.classes.now in
    let judged = class_view c.args.class.now in
    let own = λ (clauses : List ParentClause).
    SomeOf (map parent_view clauses) (λ i p f. IsOwnAncestor u c.args.d judged p f) in
    adds_either c.args.out.now c.push_own_ancestors.new.out c.push_many_ancestors.new.out
    (own c.args.class.now.parents.items) (HasManyAncestors u c.args.d judged)
    (subst (λ (clauses : List ParentClause). Appends c.args.out.now c.push_own_ancestors.new.out (own clauses))
    c.deref.ensures.value c.in_ok-push_own_ancestors.ensures)
    c.in_ok-push_many_ancestors.ensures
