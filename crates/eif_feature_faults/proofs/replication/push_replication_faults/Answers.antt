use Rattle.std.proofs.Common.{◌≤◌, ◌++◌, [], length, Some, sym, ap, ◌∙◌, arith}
use Rattle.std.specs.Prelude.{flat_map}
use Rattle.std.specs.Option.{option_map_or}
use Rattle.std.proofs.lemmas.Option.{slice_get-get_or}
use Rattle.eif_classes.specs.Descent.{above}
use Rattle.eif_feature_faults.proofs.InTurn.{added_all, added_more}
use Rattle.eif_feature_faults.proofs.Replicating.{ancestor_at, ancestor_within}
use Rattle.eif_feature_rules.specs.ReplicationRules.{ancestor_body_faults, replicated_body}
use Rattle.eif_feature_rules.specs.RuleForms.{declared_here}
use Rattle.eif_rows.proofs.Matches.{length-Match}
use Rattle.eif_rows.specs.AncestorRows.{IsAncestorRow}
use Rattle.eif_system.specs.Lineage.{line_of}
use Rattle.eif_tree.specs.View.{class_view}
use Rattle.eif_universe.specs.Universes.{classes_of}
use Rattle.eif_feature_faults.proofs.replication.push_replication_faults.Goals as goal

pub tree-requires : goal.tree-requires
tree-requires c =
    let u = classes_of c.args.u.now in
    let h = c.args.heir.now in
    let i = c.ancestors.becomes-index in
    let x = c.becomes-item.result in
    let a = ancestor_at u h.class_id.0 c.args.rows.now c.requires.rows c.args.ancestors.now c.requires.ancestors i x
    (slice_get-get_or c.args.ancestors.now i x c.ancestors-test.true ∙ ap Some (sym c.becomes-item.is)) in
    ancestor_within u c.requires.system h.class_id.0 x.class_id.0 (class_view h.tree.now) c.requires.heir.class_is
    a.listed

pub ancestors-preserved : goal.ancestors-preserved
ancestors-preserved c =
    let u = classes_of c.args.u.now in
    let h = c.args.heir.now in
    let class = class_view h.tree.now in
    let l = line_of u h.class_id.0 in
    let i = c.ancestors.becomes-index in
    let x = c.becomes-item.result in
    let k = x.class_id.0 in
    let a = ancestor_at u h.class_id.0 c.args.rows.now c.requires.rows c.args.ancestors.now c.requires.ancestors i x
    (slice_get-get_or c.args.ancestors.now i x c.ancestors-test.true ∙ ap Some (sym c.becomes-item.is)) in
    let told = c.in_ok-push_bodies.ensures u h.class_id.0 k c.requires.system record {
      row_is = a.row c.in-Some.row.now c.in-Some.ensures;
      becomes_is = a.becomes;
      names_are = c.deref.ensures.value ∙ c.requires.heir.names_are;
      drafts_are = c.requires.drafts;
    } in
    added_more (ancestor_body_faults u class l) c.args.out.now (above l) i k c.ancestors.out c.push_bodies.new.out a.at
    c.ancestors.invariant
    (told
    ∙ ap (λ faults. c.ancestors.out ++ faults)
    (sym (ap (λ o. option_map_or (λ a. flat_map (replicated_body class l k) (declared_here a)) o []) c.tree.ensures)))

pub returns : goal.returns
returns c =
    let u = classes_of c.args.u.now in
    let h = c.args.heir.now in
    let l = line_of u h.class_id.0 in
    let long = length-Match (IsAncestorRow u l) c.args.ancestors.now (above l) c.requires.ancestors in
    let past : length (above l) ≤ c.ancestors.becomes-index = omega arith in
    added_all (ancestor_body_faults u (class_view h.tree.now) l) c.args.out.now (above l) c.ancestors.becomes-index
    c.ancestors.out past c.ancestors.invariant
