use Rattle.std.proofs.Common.{◌≡◌, ℕ, List, ◌∷◌, ◌++◌, ◌+◌, length, drop, refl, sym, ap, subst, ◌∙◌, arith, append_assoc}
use Rattle.std.proofs.lemmas.List.{append-nil}
use Rattle.std.proofs.lemmas.Option.{slice_get_read}
use Rattle.std.specs.List.{flat_map}
use Rattle.eif_base.specs.declared.fault.Fault.{Fault}
use Rattle.eif_base.specs.declared.feat_id.FeatId.{FeatId}
use Rattle.eif_feature_faults.specs.Candidates.{AreNamed}
use Rattle.eif_feature_faults.specs.Selected.{undecided_by}
use Rattle.eif_feature_faults.proofs.Selecting.{left_at, none_left_of}
use Rattle.eif_rows.proofs.Matches.{Match-at}
use Rattle.eif_tree.specs.View.{class_view}
use Rattle.eif_feature_faults.proofs.selection.push_all_undecided.Goals as goal

pub candidates-preserved : goal.candidates-preserved
candidates-preserved c = λ choices all.
    let names = c.args.heir.now.names.items in
    let f = undecided_by (class_view c.args.heir.now.tree.now) c.args.set.now in
    let i = c.candidates.one-index in
    let x = c.one-item.result in
    let out = c.candidates.out in
    let at = slice_get_read c.args.candidates.now (length c.args.candidates.now) i x refl c.candidates-test.true c.one-item.is in
    let m = Match-at (λ fs ns. AreNamed names fs.items ns) c.args.candidates.now choices all i x at in
    let named = subst (λ (fs : List FeatId). AreNamed names fs m.0) (sym c.deref.ensures.value) m.2 in
    let rest = flat_map f (drop (i + 1) choices) in
    ap (λ (fs : List Fault). fs ++ rest) (c.in_ok-push_undecided.ensures m.0 named)
    ∙ (append_assoc out (f m.0) rest
    ∙ (sym (ap (λ cs. out ++ flat_map f cs) (left_at choices i m.0 m.1)) ∙ c.candidates.invariant choices all))

pub returns : goal.returns
returns c = λ choices all.
    let names = c.args.heir.now.names.items in
    let f = undecided_by (class_view c.args.heir.now.tree.now) c.args.set.now in
    let out = c.candidates.out in
    let left = none_left_of (λ fs ns. AreNamed names fs.items ns) c.args.candidates.now choices c.candidates.one-index all
    (omega arith) in
    sym (append-nil out) ∙ (sym (ap (λ cs. out ++ flat_map f cs) left) ∙ c.candidates.invariant choices all)
