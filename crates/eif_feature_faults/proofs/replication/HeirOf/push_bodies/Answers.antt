use Rattle.std.proofs.Common.{◌≤◌, ◌++◌, length, map, Some, sym, ap, ◌∙◌, arith}
use Rattle.std.specs.Prelude.{flat_map}
use Rattle.std.specs.Option.{option_map}
use Rattle.std.proofs.lemmas.List.{length-map}
use Rattle.std.proofs.lemmas.Option.{slice_get-get_or, slice_get-map}
use Rattle.eif_feature_faults.proofs.Beside.{declared_views}
use Rattle.eif_feature_faults.proofs.InTurn.{added_all, added_more}
use Rattle.eif_feature_faults.specs.DeclaredViews.{declared_view}
use Rattle.eif_feature_rules.specs.ReplicationRules.{replicated_body}
use Rattle.eif_feature_rules.specs.RuleForms.{declared_here}
use Rattle.eif_system.specs.Lineage.{line_of}
use Rattle.eif_tree.specs.View.{class_view}
use Rattle.eif_feature_faults.proofs.replication.HeirOf.push_bodies.Goals as goal

pub declared-preserved : goal.declared-preserved
declared-preserved c = λ u d k s is.
    let declared = c.deref-x-items.result.now in
    let i = c.declared.x-index in
    let x = c.x-item.result in
    added_more (replicated_body (class_view c.args.self.now.tree.now) (line_of u d) k) c.args.out.now
    (map declared_view declared) i (declared_view x) c.declared.out c.push_replicated.new.out
    (slice_get-map declared_view declared i
    ∙ ap (option_map declared_view) (slice_get-get_or declared i x c.declared-test.true ∙ ap Some (sym c.x-item.is)))
    (c.declared.invariant u d k s is) (c.in_ok-push_replicated.ensures u d k s is)

pub returns : goal.returns
returns c = λ u d k s is.
    let declared = c.deref-x-items.result.now in
    let class = class_view c.args.ancestor.now in
    let f = replicated_body (class_view c.args.self.now.tree.now) (line_of u d) k in
    let past : length (map declared_view declared) ≤ c.declared.x-index =
    omega (arith, length-map declared declared_view) in
    added_all f c.args.out.now (map declared_view declared) c.declared.x-index c.declared.out past
    (c.declared.invariant u d k s is)
    ∙ ap (λ xs. c.args.out.now ++ flat_map f xs)
    (ap (map declared_view) c.deref-x-items.ensures.value
    ∙ declared_views class c.in_ok-declared.declared.items (declared_here class) c.in_ok-declared.ensures)
