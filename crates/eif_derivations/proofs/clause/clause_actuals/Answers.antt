use Rattle.std.proofs.Common.{◌≡◌, length, refl, sym, ap, subst, ◌∙◌}
use Rattle.std.specs.Iterator.Adapters.{zip_first, zip_second}
use Rattle.std.specs.Slice.Iter.{iter_rest}
use Rattle.std.proofs.lemmas.List.{length_push}
use Rattle.std.proofs.lemmas.Option.{slice_get_read}
use Rattle.std.proofs.lemmas.Slice.Zip.{zip_end, zip_turn}
use Rattle.eif_derivations.specs.declared.clause.ClauseActuals.{ClauseActuals}
use Rattle.eif_derivations.proofs.ParentClauses.{AreClausesSoFar, all_clauses, no_clause_so_far, one_clause_more, place_in_view}
use Rattle.eif_derivations.proofs.Systems.{few_in_tree}
use Rattle.eif_system.specs.Inheritance.{clauses}
use Rattle.eif_tree.specs.View.{class_view, parent_view}
use Rattle.eif_universe.specs.Universes.{classes_of}
use Rattle.eif_derivations.proofs.clause.clause_actuals.Goals as goal

pub clauses-init : goal.clauses-init
clauses-init c =
    no_clause_so_far (classes_of c.args.u.now) c.args.class_id.0 c.args.rows.now c.in_ok-clauses.clauses.items
    c.in_ok-clauses.ensures.items

pub written_actuals-requires : goal.written_actuals-requires
written_actuals-requires c =
    few_in_tree (classes_of c.args.u.now) c.requires.system c.args.class_id.0 c.tree-class.result.now
    c.tree-class.ensures

pub clauses-preserved : goal.clauses-preserved
clauses-preserved c =
    let u = classes_of c.args.u.now in
    let d = c.args.class_id.0 in
    let class = class_view c.tree-class.result.now in
    let trees = c.clauses_of-trees.result.now in
    let ks = c.parents.result.now in
    let i = length c.clauses.yielded in
    let s = c.into_iter-tree-iterator.result in
    let tree = c.in-Some.tree.now in
    let k = c.in-Some.parent.now in
    let first : iter_rest (zip_first s) ≡ trees = cc in
    let given : iter_rest (zip_second c.zip-tree-items.result) ≡ ks = c.zip-tree-items.ensures.second.0 in
    let second : iter_rest (zip_second s) ≡ ks =
    ap (λ z. iter_rest (zip_second z)) c.into_iter-tree-iterator.ensures.into_iter_gives ∙ given in
    let t = zip_turn trees ks c.clauses.yielded s c.clauses.tree-iterator c.next.new.self c.next.result first second
    c.clauses.yielded_by (c.in-Some.tree, c.in-Some.parent) c.in-Some.is c.next.ensures.steps in
    let x : ClauseActuals =
    record { tree = c.in-Some.tree; parent = k; row = c.in-Some-row_of.row; actuals = c.in_ok-actuals.actuals } in
    subst (λ n. AreClausesSoFar u d c.args.rows.now n c.push.new.self.items)
    (sym (length_push c.clauses.yielded (c.in-Some.tree, c.in-Some.parent)))
    (one_clause_more u c.requires.system d class c.tree-class.ensures ks c.parents.ensures c.args.rows.now i
    (parent_view tree) k
    (place_in_view trees (clauses class) c.clauses_of-trees.ensures i tree (slice_get_read trees (length trees) i tree
    refl t.0 (t.2 tree)))
    (slice_get_read ks (length ks) i k refl t.1 (t.3 k)) x c.clauses.clauses.items c.push.new.self.items
    c.in_ok-push.ensures.items refl refl c.in-Some-row_of.ensures c.in_ok-actuals.ensures c.clauses.invariant)

pub returns : goal.returns
returns c =
    let u = classes_of c.args.u.now in
    let d = c.args.class_id.0 in
    let class = class_view c.tree-class.result.now in
    let trees = c.clauses_of-trees.result.now in
    let ks = c.parents.result.now in
    let i = length c.clauses.yielded in
    let s = c.into_iter-tree-iterator.result in
    let first : iter_rest (zip_first s) ≡ trees = cc in
    let given : iter_rest (zip_second c.zip-tree-items.result) ≡ ks = c.zip-tree-items.ensures.second.0 in
    let second : iter_rest (zip_second s) ≡ ks =
    ap (λ z. iter_rest (zip_second z)) c.into_iter-tree-iterator.ensures.into_iter_gives ∙ given in
    let e = zip_end trees ks c.clauses.yielded s c.clauses.tree-iterator c.next.new.self c.next.result first second
    c.clauses.yielded_by c.in-None.is c.next.ensures.steps in
    all_clauses u c.requires.system d class c.tree-class.ensures ks c.parents.ensures c.args.rows.now i trees
    c.clauses_of-trees.ensures e c.clauses.clauses.items c.clauses.invariant
