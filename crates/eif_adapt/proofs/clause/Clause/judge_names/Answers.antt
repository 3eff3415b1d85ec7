use Rattle.std.proofs.Common.{List, [], ◌∷◌, ◌++◌, map, take, sym, subst, append_assoc, arith}
use Rattle.std.proofs.lemmas.List.{append-nil}
use Rattle.eif_tree.specs.declared.tree.NameAt.{NameAt}
use Rattle.eif_tree.specs.View.{parent_view}
use Rattle.eif_adapt.specs.Adaptations.{feature_view}
use Rattle.eif_adapt.specs.Parts.{part_faults, AreJudged}
use Rattle.eif_adapt.proofs.OneOn.{one_on, at_end}
use Rattle.eif_adapt.proofs.clause.Clause.judge_names.Goals as goal

pub names-init : goal.names-init
names-init c = λ old before h.
    let clause = c.args.self.now in
    let judge = part_faults c.args.part clause.class_name.now (parent_view clause.indexed.tree.now)
    (map feature_view clause.features.now) in
    subst (λ (ns : List NameAt). AreJudged judge old c.args.out.now c.args.earlier.now ns) (sym (append-nil before)) h

pub names-preserved : goal.names-preserved
names-preserved c = λ old before h.
    let clause = c.args.self.now in
    let judge = part_faults c.args.part clause.class_name.now (parent_view clause.indexed.tree.now)
    (map feature_view clause.features.now) in
    let names = c.args.names.now in
    let i = c.names.name-index in
    let x = c.name-item.result in
    let out = c.judge_name.new.out in
    let earlier = c.judge_name.new.earlier in
    one_on (λ (ns : List NameAt). AreJudged judge old out earlier (before ++ ns)) names i x c.names-test.true c.name-item.is
    (subst (λ (ns : List NameAt). AreJudged judge old out earlier ns) (append_assoc before (take i names) (x ∷ []))
    (c.in_ok-judge_name.ensures old (before ++ take i names) (c.names.invariant old before h)))

pub returns : goal.returns
returns c = λ old before h.
    let clause = c.args.self.now in
    let judge = part_faults c.args.part clause.class_name.now (parent_view clause.indexed.tree.now)
    (map feature_view clause.features.now) in
    at_end (λ (ns : List NameAt). AreJudged judge old c.names.out c.names.earlier (before ++ ns))
    c.args.names.now c.names.name-index (omega arith) (c.names.invariant old before h)
