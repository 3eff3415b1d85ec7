use Rattle.std.proofs.Common.{◌≡◌, ◌++◌, ℕ, List, map, length, ap, arith, ◌∙◌}
use Rattle.std.specs.Prelude.{flat_map}
use Rattle.std.proofs.lemmas.List.{length-map}
use Rattle.eif_base.specs.declared.fault.Fault.{Fault}
use Rattle.eif_classes.specs.Descent as descent
use Rattle.eif_classes.specs.Entries.{Feature}
use Rattle.eif_classes.specs.Features.{features}
use Rattle.eif_feature_faults.proofs.InTurn.{then}
use Rattle.eif_feature_faults.specs.Versions.{HasVersion}
use Rattle.eif_feature_rules.specs.FeatureRules.{count_names, many_ancestor_names, many_names, origin_faults}
use Rattle.eif_heirs.specs.Drafts.{IsDraft}
use Rattle.eif_rows.proofs.Matches.{Match-weaken}
use Rattle.eif_rows.specs.Numbers.{class_numbers}
use Rattle.eif_system.specs.Lineage.{line_of}
use Rattle.eif_tree.specs.View.{class_view}
use Rattle.eif_feature_faults.proofs.names.push_name_faults.Goals as goal

pub returns : goal.returns
returns c = λ u heir rows drafts above.
    let class = class_view c.args.heir.now.tree.now in
    let d = c.args.heir.now.class_id.0 in
    let fs = features (line_of u d) in
    let old = c.args.out.now in
    let first = c.push_origin_faults.new.out in
    let second = c.push_many_names.new.out in
    let named : c.deref.result.now ≡ map (λ (f : Feature). f.name) fs = c.deref.ensures.value ∙ heir.names_are in
    let versions = Match-weaken (IsDraft u d class) (HasVersion u) (λ r f h. h.version) c.args.drafts.now fs drafts in
    let long : length c.deref.result.now ≡ length fs = ap length named ∙ length-map fs (λ (f : Feature). f.name) in
    let count : c.len.result ≡ length fs = omega arith in
    let many = c.in_ok-push_many_names.ensures ∙ ap (λ (n : ℕ). first ++ many_names class n) count in
    let above_many = c.in_ok-push_many_ancestor_names.ensures u d rows above
    ∙ ap (λ (ks : List ℕ). second ++ many_ancestor_names class (map (count_names u) ks)) above in
    then old (flat_map (origin_faults class) fs ++ many_names class (length fs))
    (many_ancestor_names class (map (count_names u) (descent.above (line_of u d)))) second
    c.push_many_ancestor_names.new.out
    (then old (flat_map (origin_faults class) fs) (many_names class (length fs)) first second
    (c.in_ok-push_origin_faults.ensures u fs named versions) many)
    above_many
