use Rattle.std.proofs.Common.{◌≡◌, ℕ, ◌≤◌, List, [], ◌∷◌, length, map, take, sym, ap, subst, ◌∙◌, arith}
use Rattle.std.specs.Iterator.Adapters.{zip_first, zip_second}
use Rattle.std.specs.Slice.Iter.{iter_rest}
use Rattle.std.proofs.lemmas.List.{length-map, length_push, map-append}
use Rattle.std.proofs.lemmas.Slice.Zip.{zip_end, zip_turn}
use Rattle.eif_adapt.proofs.OneOn.{one_on, at_end}
use Rattle.eif_heirs.specs.AdaptedClauses.{IsParent, AreAdapted}
use Rattle.eif_heirs.proofs.AdaptedInTurn.{nothing_adapted}
use Rattle.eif_heirs.proofs.DeclaredInTurn.{item_here, view_here}
use Rattle.eif_rows.proofs.Matches.{length-Match, Match-at_both}
use Rattle.eif_tree.specs.Tree.{ParentT}
use Rattle.eif_tree.specs.View.{class_view, parent_view}
use Rattle.eif_tree.specs.declared.class.ParentClause.{ParentClause}
use Rattle.eif_heirs.proofs.clauses.adapted_over.Goals as goal

pub clauses-init : goal.clauses-init
clauses-init c = λ u h.
    nothing_adapted u (class_view c.args.class.now.tree.now) c.args.out.now c.in_ok-clauses.clauses.items
    c.in_ok-clauses.ensures.items

pub clauses-preserved : goal.clauses-preserved
clauses-preserved c = λ u h.
    let k = class_view c.args.class.now.tree.now in
    let old = c.args.out.now in
    let out = c.push_adapted.new.out in
    let xs = c.push_adapted.new.clauses.items in
    let trees = c.args.trees.now in
    let parents = c.args.parents.now in
    let s = c.into_iter-tree-iterator.result in
    let i = length c.clauses.yielded in
    let tree = c.in-Some.tree.now in
    let parent = c.in-Some.parent.now in
    let first : iter_rest (zip_first s) ≡ trees = cc in
    let given : iter_rest (zip_second c.zip-tree-items.result) ≡ parents = c.zip-tree-items.ensures.second.0 in
    let second : iter_rest (zip_second s) ≡ parents =
    ap (λ z. iter_rest (zip_second z)) c.into_iter-tree-iterator.ensures.into_iter_gives ∙ given in
    let t = zip_turn trees parents c.clauses.yielded s c.clauses.tree-iterator c.next.new.self c.next.result first second
    c.clauses.yielded_by (c.in-Some.tree, c.in-Some.parent) c.in-Some.is c.next.ensures.steps in
    let P : List ParentClause → Type 0 = λ ps. AreAdapted u k old out xs (map parent_view ps) in
    subst (λ (n : ℕ). P (take n trees)) (sym (length_push c.clauses.yielded (c.in-Some.tree, c.in-Some.parent)))
    (one_on P trees i tree t.0 (t.2 tree)
    (subst (λ (ps : List ParentT). AreAdapted u k old out xs ps) (sym (map-append parent_view (take i trees) (tree ∷ [])))
    (c.in_ok-push_adapted.ensures u old (map parent_view (take i trees))
    (Match-at_both (IsParent u k c.args.rows.now) (map parent_view trees) parents h i (parent_view tree) parent
    (view_here parent_view trees i tree t.0 (t.2 tree)) (item_here parents i parent t.1 (t.3 parent)))
    (c.clauses.invariant u h))))

pub returns : goal.returns
returns c = λ u h.
    let k = class_view c.args.class.now.tree.now in
    let trees = c.args.trees.now in
    let parents = c.args.parents.now in
    let s = c.into_iter-tree-iterator.result in
    let i = length c.clauses.yielded in
    let first : iter_rest (zip_first s) ≡ trees = cc in
    let given : iter_rest (zip_second c.zip-tree-items.result) ≡ parents = c.zip-tree-items.ensures.second.0 in
    let second : iter_rest (zip_second s) ≡ parents =
    ap (λ z. iter_rest (zip_second z)) c.into_iter-tree-iterator.ensures.into_iter_gives ∙ given in
    let e = zip_end trees parents c.clauses.yielded s c.clauses.tree-iterator c.next.new.self c.next.result first second
    c.clauses.yielded_by c.in-None.is c.next.ensures.steps in
    let same = length-Match (IsParent u k c.args.rows.now) (map parent_view trees) parents h in
    let long = length-map trees parent_view in
    let past : length trees ≤ i = omega arith in
    at_end (λ (ps : List ParentClause). AreAdapted u k c.args.out.now c.clauses.out c.clauses.clauses.items (map parent_view ps))
    trees i past (c.clauses.invariant u h)
