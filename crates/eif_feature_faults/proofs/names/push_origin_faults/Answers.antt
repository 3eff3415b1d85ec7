use Rattle.std.proofs.Common.{◌≡◌, ℕ, List, [], ◌++◌, map, ap, sym, refl, ◌∙◌, Some, arith, ◌≤◌, length, Option}
use Rattle.std.specs.Prelude.{slice_get}
use Rattle.std.proofs.lemmas.Option.{slice_get-get_or}
use Rattle.eif_classes.specs.Entries.{Feature}
use Rattle.eif_feature_faults.proofs.InTurn.{added_more, added_all, of_lent}
use Rattle.eif_feature_faults.proofs.VersionFaults.{faults_at}
use Rattle.eif_feature_faults.specs.Versions.{HasVersion, version_faults}
use Rattle.eif_feature_rules.specs.FeatureRules.{origin_faults}
use Rattle.eif_rows.proofs.Matches.{length-Match}
use Rattle.eif_tree.specs.View.{class_view}
use Rattle.eif_feature_faults.proofs.names.push_origin_faults.Goals as goal

pub names-preserved : goal.names-preserved
names-preserved c = λ u fs named h.
    let drafts = c.args.drafts.now in
    let i = c.names.i in
    let r = c.index-drafts-i.result in
    let at : slice_get drafts i ≡ Some r = slice_get-get_or drafts i r c.names-test.true ∙ ap Some (sym c.index-drafts-i.is) in
    let p = faults_at u (class_view c.args.class.now) c.args.names.now drafts fs i r named h at in
    added_more (origin_faults (class_view c.args.class.now)) c.args.out.now fs i p.0 c.names.out
    c.push_any_version_fault.new.out p.1 (c.names.invariant u fs named h)
    (c.in_ok-push_any_version_fault.ensures
    ∙ ap (λ more. c.names.out ++ more)
    (of_lent (λ (n : List ℕ). version_faults (class_view c.args.class.now) n r.version) [] c.args.names.now i
    c.get.result c.get.ensures.lookup ∙ p.2))

pub returns : goal.returns
returns c = λ u fs named h.
    let long = length-Match (HasVersion u) c.args.drafts.now fs h in
    let past : length fs ≤ c.names.i = omega arith in
    added_all (origin_faults (class_view c.args.class.now)) c.args.out.now fs c.names.i c.names.out past
    (c.names.invariant u fs named h)
