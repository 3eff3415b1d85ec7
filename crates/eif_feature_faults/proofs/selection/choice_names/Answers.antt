use Rattle.std.proofs.Common.{◌≡◌, ℕ, List, ◌∷◌, ◌+◌, Vec, length, drop, refl, sym, ap, subst, ◌∙◌, arith}
use Rattle.std.proofs.lemmas.Option.{slice_get_read}
use Rattle.std.specs.Prelude.{◌||◌}
use Rattle.eif_ancestry.proofs.Members.{or_false}
use Rattle.eif_base.specs.declared.feat_id.FeatId.{FeatId}
use Rattle.eif_base.specs.Numbering.{is_among}
use Rattle.eif_feature_faults.specs.Candidates.{AreNamed}
use Rattle.eif_feature_faults.proofs.Selecting.{choice_more, left_at, none_left_of}
use Rattle.eif_feature_rules.specs.SelectionRules.{is_choice}
use Rattle.eif_rows.proofs.Matches.{Match-at}
use Rattle.eif_feature_faults.proofs.selection.choice_names.Goals as goal

pub candidates-preserved : goal.candidates-preserved
candidates-preserved c = λ choices all n.
    let names = c.args.names.now in
    let i = c.candidates.one-index in
    let x = c.one-item.result in
    let at = slice_get_read c.args.candidates.now (length c.args.candidates.now) i x refl c.candidates-test.true c.one-item.is in
    let m = Match-at (λ fs ns. AreNamed names fs.items ns) c.args.candidates.now choices all i x at in
    let named = subst (λ (fs : List FeatId). AreNamed names fs m.0) (sym c.deref.ensures.value) m.2 in
    choice_more c.candidates.set c.add_choice.new.set m.0 (drop (i + 1) choices) n (c.in_ok-add_choice.ensures m.0 named n)
    ∙ (sym (ap (λ cs. is_among c.candidates.set n || is_choice cs n) (left_at choices i m.0 m.1))
    ∙ c.candidates.invariant choices all n)

pub returns : goal.returns
returns c = λ choices all n.
    let i = c.candidates.one-index in
    let left = none_left_of (λ fs ns. AreNamed c.args.names.now fs.items ns) c.args.candidates.now choices i all (omega arith) in
    sym (or_false (is_among c.candidates.set n))
    ∙ (sym (ap (λ cs. is_among c.candidates.set n || is_choice cs n) left) ∙ c.candidates.invariant choices all n)
