use Rattle.std.proofs.Common.{◌≡◌, ◌++◌, ℕ, List, map, ap, ◌∙◌}
use Rattle.eif_adapt.specs.declared.adapted.AdaptedEntry.{AdaptedEntry}
use Rattle.eif_base.specs.declared.fault.Fault.{Fault}
use Rattle.eif_base.specs.Numbering.{is_among}
use Rattle.eif_feature_faults.specs.Selected.{needless_by}
use Rattle.eif_feature_faults.proofs.Selecting.{needless_same}
use Rattle.eif_feature_rules.specs.ClauseRules.{each_listed}
use Rattle.eif_tree.specs.declared.tree.NameAt.{NameAt}
use Rattle.eif_tree.specs.View.{class_view}
use Rattle.eif_feature_faults.proofs.selection.push_needless_in.Goals as goal

pub returns : goal.returns
returns c =
    let class = class_view c.args.class.now in
    let clause = c.args.clause.now in
    let finals = map (λ e. e.final_name) clause.adapted.items in
    let same : (n : List ℕ) → is_among c.in_ok-finals.finals n ≡ is_among finals n =
    λ n. c.in_ok-finals.ensures n
    ∙ ap (λ (es : List AdaptedEntry). is_among (map (λ e. e.final_name) es) n) c.deref.ensures.value in
    c.in_ok-push_needless_selects.ensures
    ∙ (ap (λ (ns : List NameAt). c.args.out.now
    ++ each_listed (needless_by class c.args.choice.now c.in_ok-finals.finals) ns) c.deref-2.ensures.value
    ∙ ap (λ (fs : List Fault). c.args.out.now ++ fs)
    (needless_same class c.args.choice.now c.in_ok-finals.finals finals same clause.tree.now.selects.items))
