use Rattle.std.proofs.Common.{◌≡◌, ℕ, ◌≤◌, List, length, map, take, refl, sym, ap, subst, ◌∙◌, arith}
use Rattle.std.specs.Prelude.{flat_map, slice_get}
use Rattle.std.specs.Iterator.Adapters.{zip_first, zip_second}
use Rattle.std.specs.Slice.Iter.{iter_rest}
use Rattle.std.proofs.lemmas.List.{length-map, length_push}
use Rattle.std.proofs.lemmas.Option.{slice_get_read}
use Rattle.std.proofs.lemmas.Slice.Zip.{zip_end, zip_turn}
use Rattle.eif_adapt.proofs.OneOn.{at_end}
use Rattle.eif_classes.specs.Signatures.{SignedEntry}
use Rattle.eif_derivations.proofs.ParentClauses.{place_in_view}
use Rattle.eif_redecl.proofs.GroupLaws.{clause_more}
use Rattle.eif_redecl.proofs.Turns.{one_on_at}
use Rattle.eif_redecl.specs.SeenClauses.{AreGroups, IsClause, signed_of}
use Rattle.eif_rows.proofs.Matches.{Match-at_both, length-Match}
use Rattle.eif_signatures.specs.DerivedSystems.{classes_in}
use Rattle.eif_tree.specs.View.{class_view, parent_view}
use Rattle.eif_tree.specs.declared.class.ParentClause.{ParentClause}
use Rattle.eif_redecl.proofs.entry.Heir.entries_by.Goals as goal

pub add_clause-requires-clause-clause : goal.add_clause-requires-clause-clause
add_clause-requires-clause-clause c =
    let h = c.args.self.now in
    let u = classes_in h.system in
    let trees = h.clauses.now in
    let parents = c.args.parents.now in
    let s = c.into_iter-tree-iterator.result in
    let i = length c.clauses.yielded in
    let tree = c.in-Some.tree.now in
    let parent = c.in-Some.parent.now in
    let first : iter_rest (zip_first s) ≡ trees = cc in
    let given : iter_rest (zip_second c.zip-tree-items.result) ≡ parents = c.zip-tree-items.ensures.second.0 in
    let second : iter_rest (zip_second s) ≡ parents =
    ap (λ z. iter_rest (zip_second z)) c.into_iter-tree-iterator.ensures.into_iter_gives ∙ given in
    let t = zip_turn trees parents c.clauses.yielded s c.clauses.tree-iterator c.next.new.self c.next.result first second
    c.clauses.yielded_by (c.in-Some.tree, c.in-Some.parent) c.in-Some.is c.next.ensures.steps in
    Match-at_both (IsClause u (class_view h.class.now)) (map parent_view trees) parents c.requires.parents i
    (parent_view tree) parent
    (place_in_view trees (map parent_view trees) refl i tree (slice_get_read trees (length trees) i tree refl t.0 (t.2 tree)))
    (slice_get_read parents (length parents) i parent refl t.1 (t.3 parent))

pub clauses-preserved : goal.clauses-preserved
clauses-preserved c =
    let h = c.args.self.now in
    let u = classes_in h.system in
    let d = h.class_id.0 in
    let class = class_view h.class.now in
    let trees = h.clauses.now in
    let parents = c.args.parents.now in
    let s = c.into_iter-tree-iterator.result in
    let i = length c.clauses.yielded in
    let tree = c.in-Some.tree.now in
    let first : iter_rest (zip_first s) ≡ trees = cc in
    let given : iter_rest (zip_second c.zip-tree-items.result) ≡ parents = c.zip-tree-items.ensures.second.0 in
    let second : iter_rest (zip_second s) ≡ parents =
    ap (λ z. iter_rest (zip_second z)) c.into_iter-tree-iterator.ensures.into_iter_gives ∙ given in
    let t = zip_turn trees parents c.clauses.yielded s c.clauses.tree-iterator c.next.new.self c.next.result first second
    c.clauses.yielded_by (c.in-Some.tree, c.in-Some.parent) c.in-Some.is c.next.ensures.steps in
    let new = c.add_clause.new.groups.groups.items in
    let P : List ParentClause → Type 0 = λ ps. AreGroups u d new (flat_map (signed_of u class) (map parent_view ps)) in
    subst (λ (n : ℕ). P (take n trees)) (sym (length_push c.clauses.yielded (c.in-Some.tree, c.in-Some.parent)))
    (one_on_at P trees i tree (slice_get_read trees (length trees) i tree refl t.0 (t.2 tree))
    (subst (λ (es : List SignedEntry). AreGroups u d new es) (clause_more u class (take i trees) tree)
    (c.in_ok-add_clause.ensures (flat_map (signed_of u class) (map parent_view (take i trees))) c.clauses.invariant)))

pub returns : goal.returns
returns c =
    let h = c.args.self.now in
    let u = classes_in h.system in
    let d = h.class_id.0 in
    let class = class_view h.class.now in
    let trees = h.clauses.now in
    let parents = c.args.parents.now in
    let s = c.into_iter-tree-iterator.result in
    let i = length c.clauses.yielded in
    let first : iter_rest (zip_first s) ≡ trees = cc in
    let given : iter_rest (zip_second c.zip-tree-items.result) ≡ parents = c.zip-tree-items.ensures.second.0 in
    let second : iter_rest (zip_second s) ≡ parents =
    ap (λ z. iter_rest (zip_second z)) c.into_iter-tree-iterator.ensures.into_iter_gives ∙ given in
    let e = zip_end trees parents c.clauses.yielded s c.clauses.tree-iterator c.next.new.self c.next.result first second
    c.clauses.yielded_by c.in-None.is c.next.ensures.steps in
    let same = length-Match (IsClause u class) (map parent_view trees) parents c.requires.parents in
    let long = length-map trees parent_view in
    let past : length trees ≤ i = omega arith in
    at_end (λ (ps : List ParentClause). AreGroups u d c.clauses.groups.groups.items
    (flat_map (signed_of u class) (map parent_view ps))) trees i past c.clauses.invariant
