use Rattle.std.proofs.Common.{List, [], ◌∷◌, ◌++◌, ◌<◌, take, subst, arith}
use Rattle.std.proofs.lemmas.List.{length-map}
use Rattle.eif_adapt.proofs.OneOn.{at_end}
use Rattle.eif_classes.specs.Entries.{Feature}
use Rattle.eif_classes.specs.Features.{features}
use Rattle.eif_classes.specs.Signatures.{SignedEntry}
use Rattle.eif_redecl.proofs.GroupLaws.{all_of, one_more}
use Rattle.eif_redecl.proofs.HeirLaws.{class_has, number_has, parent_within}
use Rattle.eif_redecl.proofs.Turns.{one_on_at}
use Rattle.eif_redecl.specs.SeenClauses.{AreGroups, signed_by}
use Rattle.eif_signatures.proofs.Derived.{feature_at}
use Rattle.eif_signatures.specs.DerivedSystems.{classes_in}
use Rattle.eif_system.specs.Lineage.{line_of}
use Rattle.eif_tree.specs.View.{class_view, parent_view}
use Rattle.eif_tree.specs.declared.class.ParentClause.{ParentClause}
use Rattle.eif_redecl.proofs.entry.Heir.add_clause.Goals as goal

pub count-feat-end-requires : goal.count-feat-end-requires
count-feat-end-requires c =
    let h = c.args.self.now in
    let is = c.requires.heir in
    class_has h is c.args.parent (parent_within h is (parent_view c.args.tree.now) c.args.parent c.requires.clause)

pub add_entry-requires-clause-feature : goal.add_entry-requires-clause-feature
add_entry-requires-clause-feature c =
    let h = c.args.self.now in
    let is = c.requires.heir in
    number_has h is c.args.parent _ (parent_within h is (parent_view c.args.tree.now) c.args.parent c.requires.clause)
    (subst (λ n. c.features.feat < n) (c.count-feat-end.ensures (classes_in h.system) is.system.tables_are)
    c.features-test.true)

pub features-preserved : goal.features-preserved
features-preserved c = λ es are.
    let h = c.args.self.now in
    let is = c.requires.heir in
    let u = classes_in h.system in
    let d = h.class_id.0 in
    let class = class_view h.class.now in
    let p = parent_view c.args.tree.now in
    let l = line_of u c.args.parent.0 in
    let i = c.features.feat in
    let new = c.add_entry.new.groups.groups.items in
    let below = subst (λ n. i < n) (c.count-feat-end.ensures u is.system.tables_are) c.features-test.true in
    let has = number_has h is c.args.parent (record { 0 = i }) (parent_within h is p c.args.parent c.requires.clause) below in
    let x = feature_at u h.system.tables.now h.system.types.now is.system c.args.parent (record { 0 = i }) has in
    let front = es ++ signed_by u class p l (take i (features l)) in
    one_on_at (λ (fs : List Feature). AreGroups u d new (es ++ signed_by u class p l fs)) (features l) i x.0 x.1
    (subst (λ (ss : List SignedEntry). AreGroups u d new ss) (one_more u class p l es (take i (features l)) x.0)
    (subst (λ (t : ParentClause). AreGroups u d new (front ++ signed_by u class (parent_view t) l (x.0 ∷ [])))
    c.in_ok-clause.ensures (c.in_ok-add_entry.ensures x.0 front x.1 (c.features.invariant es are))))

pub returns : goal.returns
returns c = λ es are.
    let h = c.args.self.now in
    let is = c.requires.heir in
    let u = classes_in h.system in
    let d = h.class_id.0 in
    let class = class_view h.class.now in
    let p = parent_view c.args.tree.now in
    let k = c.args.parent.0 in
    let l = line_of u k in
    let count = c.count-feat-end.ensures u is.system.tables_are in
    let long = length-map (features l) (λ (f : Feature). f.name) in
    let groups = c.features.groups.groups.items in
    subst (λ (ss : List SignedEntry). AreGroups u d groups (es ++ ss)) (all_of u class p k c.requires.clause.number)
    (at_end (λ (fs : List Feature). AreGroups u d groups (es ++ signed_by u class p l fs)) (features l) c.features.feat
    (omega arith) (c.features.invariant es are))
