use Rattle.std.proofs.Common.{◌≡◌, length, map, ◌∙◌, arith}
use Rattle.std.proofs.lemmas.List.{length-map}
use Rattle.eif_base.proofs.Adding.{loop_ends, loop_goes_on}
use Rattle.eif_rules.specs.UniverseRules.{IsOwnAncestor}
use Rattle.eif_tree.specs.View.{class_view, parent_view}
use Rattle.eif_universe.specs.ClassesView.{classes_view}
use Rattle.eif_universe.proofs.Told.{view_at}
use Rattle.eif_universe.proofs.inheritance.push_own_ancestors.Goals as goal

pub clauses-preserved : goal.clauses-preserved
clauses-preserved c =
    let clauses = c.args.clauses.now in
    let i = c.clauses.clause-index in
    let x = c.clause-item.result in
    loop_goes_on c.args.out.now c.clauses.out c.push_own_ancestor.new.out (map parent_view clauses)
    (λ i p f. IsOwnAncestor (classes_view c.args.classes.now) c.args.d (class_view c.args.class.now) p f)
    i (parent_view x)
    (view_at parent_view clauses i x c.clauses-test.true c.clause-item.is) c.clauses.invariant
    c.in_ok-push_own_ancestor.ensures

pub returns : goal.returns
returns c =
    let clauses = c.args.clauses.now in
    let all : length clauses ≡ c.clauses.clause-index = omega arith in
    loop_ends c.args.out.now c.clauses.out (map parent_view clauses)
    (λ i p f. IsOwnAncestor (classes_view c.args.classes.now) c.args.d (class_view c.args.class.now) p f)
    c.clauses.clause-index (length-map clauses parent_view ∙ all) c.clauses.invariant
