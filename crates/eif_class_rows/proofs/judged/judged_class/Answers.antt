use Rattle.std.proofs.Common.{List, ◌++◌, sym, ap, subst, refl, ◌∙◌}
use Rattle.eif_base.specs.declared.class_id.ClassId.{ClassId}
use Rattle.eif_base.specs.declared.fault.Fault.{Fault}
use Rattle.eif_class_rows.proofs.Faults.{faults_in_turn, judged_by}
use Rattle.eif_classes.specs.Descent.{above}
use Rattle.eif_classes.specs.Features.{features}
use Rattle.eif_feature_rules.specs.FeatureRules.{adaptation_faults}
use Rattle.eif_feature_rules.specs.RuleForms.{each_clause}
use Rattle.eif_heirs.specs.Clauses.{ups_in}
use Rattle.eif_heirs.specs.Drafts.{IsDraft}
use Rattle.eif_heirs.specs.RowsAbove.{AreRowsAbove}
use Rattle.eif_rows.specs.AncestorRows.{IsAncestorRow}
use Rattle.eif_rows.specs.Matched.{Match}
use Rattle.eif_rows.specs.Numbers.{class_numbers}
use Rattle.eif_system.specs.Lineage.{line_of}
use Rattle.eif_tree.specs.View.{class_view}
use Rattle.eif_universe.specs.Universes.{classes_of}
use Rattle.eif_class_rows.proofs.judged.judged_class.Goals as goal

pub push_replication_faults-requires-clause-rows : goal.push_replication_faults-requires-clause-rows
push_replication_faults-requires-clause-rows c =
    let number = ap (λ (x : ClassId). x.0) c.in_ok-heir.ensures.class in
    subst (AreRowsAbove (classes_of c.args.u.now) c.args.rows.now) (sym number) c.requires.rows

pub push_replication_faults-requires-clause-ancestors : goal.push_replication_faults-requires-clause-ancestors
push_replication_faults-requires-clause-ancestors c =
    let u = classes_of c.args.u.now in
    let l = line_of u c.in_ok-heir.heir.class_id.0 in
    let number = ap (λ (x : ClassId). x.0) c.in_ok-heir.ensures.class in
    let rows = subst (AreRowsAbove u c.args.rows.now) (sym number) c.requires.rows in
    subst (λ xs. Match (IsAncestorRow u l) xs (above l)) (sym c.deref-4.ensures.value)
    (c.in_ok-choices.ensures u c.requires.system c.in_ok-heir.ensures.heir rows).ancestors_are

pub returns : goal.returns
returns c =
    let u = classes_of c.args.u.now in
    let h = c.in_ok-heir.heir in
    let class = class_view h.tree.now in
    let is = c.in_ok-heir.ensures.heir in
    let number = ap (λ (x : ClassId). x.0) c.in_ok-heir.ensures.class in
    let rows = subst (AreRowsAbove u c.args.rows.now) (sym number) c.requires.rows in
    let choices = c.in_ok-choices.ensures u c.requires.system is rows in
    let drafts = subst (λ xs. Match (IsDraft u h.class_id.0 class) xs (features (line_of u h.class_id.0)))
    (sym c.deref.ensures.value) c.in_ok-drafts.ensures in
    judged_by u c.args.class_id.0 _ number (record {
      class_is = refl;
      heir_is = is;
      drafts_are = c.in_ok-drafts.ensures;
      choices_are = choices;
      faults_are = faults_in_turn u h is c.heir_of.new.out c.push_declaration_faults.new.out c.push_name_faults.new.out
          c.push_selection_faults.new.out c.push_replication_faults.new.out
          (c.in_ok-heir.ensures.faults
          ∙ ap (λ (fs : List Fault). fs ++ each_clause (adaptation_faults class) (ups_in u class)) c.new-faults.ensures)
          c.in_ok-push_declaration_faults.ensures
          (c.in_ok-push_name_faults.ensures u is rows drafts
          (ap class_numbers c.deref-2.ensures.value ∙ choices.above_are))
          (c.in_ok-push_selection_faults.ensures u is choices)
          c.in_ok-push_replication_faults.ensures;
    })
