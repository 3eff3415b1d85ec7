use Rattle.std.proofs.Common.{List, [], ◌∷◌, map, take, sym, subst, arith}
use Rattle.std.proofs.lemmas.List.{map-append}
use Rattle.eif_tree.specs.declared.tree.NameAt.{NameAt}
use Rattle.eif_tree.specs.declared.tree.RenamePair.{RenamePair}
use Rattle.eif_feature_rules.specs.ClauseRules.{rename_faults}
use Rattle.eif_adapt.specs.Adaptations.{feature_view}
use Rattle.eif_adapt.specs.Parts.{AreJudged}
use Rattle.eif_adapt.proofs.Judged.{nothing_judged}
use Rattle.eif_adapt.proofs.OneOn.{one_on, at_end}
use Rattle.eif_adapt.proofs.clause.Clause.push_faults_of_renames.Goals as goal

abbrev old_name : RenamePair → NameAt
old_name r = r.old_name

pub renames-init : goal.renames-init
renames-init c =
    let clause = c.args.self.now in
    nothing_judged (rename_faults clause.class_name.now (map feature_view clause.features.now)) c.args.out.now
    c.new-earlier.result c.new-earlier.ensures

pub renames-preserved : goal.renames-preserved
renames-preserved c =
    let clause = c.args.self.now in
    let judge = rename_faults clause.class_name.now (map feature_view clause.features.now) in
    let old = c.args.out.now in
    let renames = c.args.renames.now in
    let i = c.renames.rename-index in
    let r = c.rename-item.result in
    let out = c.judge_name.new.out in
    let earlier = c.judge_name.new.earlier in
    one_on (λ (rs : List RenamePair). AreJudged judge old out earlier (map old_name rs)) renames i r c.renames-test.true
    c.rename-item.is
    (subst (λ (ns : List NameAt). AreJudged judge old out earlier ns) (sym (map-append old_name (take i renames) (r ∷ [])))
    (c.in_ok-judge_name.ensures old (map old_name (take i renames)) c.renames.invariant))

pub returns : goal.returns
returns c =
    let clause = c.args.self.now in
    let judge = rename_faults clause.class_name.now (map feature_view clause.features.now) in
    let all = at_end (λ (rs : List RenamePair). AreJudged judge c.args.out.now c.renames.out c.renames.earlier (map old_name rs))
    c.args.renames.now c.renames.rename-index (omega arith) c.renames.invariant in
    all.faults
