use Rattle.std.proofs.Common.{◌≡◌, ◌++◌, true, false, sym, ap, subst, ◌∙◌}
use Rattle.std.proofs.lemmas.List.{append-nil}
use Rattle.std.proofs.lemmas.Result.{IfOk-weaker}
use Rattle.std.specs.Prelude.{OnOk}
use Rattle.eif_class_rows.proofs.RowsFor.{rows_above}
use Rattle.eif_class_rows.proofs.Whole.{judged_where, not_under_breach, row_if_whole}
use Rattle.eif_universe.specs.Universes.{classes_of}
use Rattle.eif_class_rows.proofs.phase.judge_class.Goals as goal

pub push_judged-requires-clause-rows : goal.push_judged-requires-clause-rows
push_judged-requires-clause-rows c =
    rows_above (classes_of c.args.u.now) c.requires.system c.args.rows.now c.args.class_id.0 c.requires.rows
    c.requires.class (sym c.has_clean_ancestors.ensures ∙ c.if-has_clean_ancestors.true)

pub returns-then-has_clean_ancestors-clause-row : goal.returns-then-has_clean_ancestors-clause-row
returns-then-has_clean_ancestors-clause-row c = IfOk-weaker c.push_judged.result _ _
    (row_if_whole (classes_of c.args.u.now) c.requires.system c.args.class_id.0
    (sym c.has_clean_ancestors.ensures ∙ c.if-has_clean_ancestors.true))
    c.push_judged.ensures.row

pub returns-then-has_clean_ancestors-clause-faults : goal.returns-then-has_clean_ancestors-clause-faults
returns-then-has_clean_ancestors-clause-faults c =
    subst (λ fs. OnOk c.push_judged.result (c.push_judged.new.out ≡ c.args.out.now ++ fs))
    (sym (judged_where (classes_of c.args.u.now) c.requires.system c.args.class_id.0 true
    (sym c.has_clean_ancestors.ensures ∙ c.if-has_clean_ancestors.true)))
    c.push_judged.ensures.faults

pub returns-else-has_clean_ancestors-clause-row : goal.returns-else-has_clean_ancestors-clause-row
returns-else-has_clean_ancestors-clause-row c =
    not_under_breach (classes_of c.args.u.now) c.requires.system c.args.class_id.0
    (sym c.has_clean_ancestors.ensures ∙ c.if-has_clean_ancestors.false)

pub returns-else-has_clean_ancestors-clause-faults : goal.returns-else-has_clean_ancestors-clause-faults
returns-else-has_clean_ancestors-clause-faults c =
    sym (ap (λ fs. c.args.out.now ++ fs)
    (judged_where (classes_of c.args.u.now) c.requires.system c.args.class_id.0 false
    (sym c.has_clean_ancestors.ensures ∙ c.if-has_clean_ancestors.false))
    ∙ append-nil c.args.out.now)
