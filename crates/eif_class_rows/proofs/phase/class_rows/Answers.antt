use Rattle.std.proofs.Common.{◌≡◌, ◌++◌, true, false, List, ap, subst, sym, ◌∙◌}
use Rattle.eif_base.specs.Appends.{Has}
use Rattle.eif_base.specs.declared.fault.Fault.{Fault}
use Rattle.eif_class_rows.proofs.Outcome.{faults_of_given, none_broken, whole_rows}
use Rattle.eif_feature_rules.specs.FeaturePhases.{FeaturesBroken}
use Rattle.eif_rows.specs.Numbers.{class_numbers}
use Rattle.eif_table_laws.specs.WholeClasses.{faults_by}
use Rattle.eif_universe.specs.Universes.{classes_of, given_in}
use Rattle.eif_class_rows.proofs.phase.class_rows.Goals as goal

pub returns-then-not-is_empty-clause-faults : goal.returns-then-not-is_empty-clause-faults
returns-then-not-is_empty-clause-faults c =
    let u = classes_of c.args.u.now in
    let order = class_numbers c.order.result.now in
    let faults = c.in_ok-rows.ensures.faults
    ∙ ap (λ (fs : List Fault). fs ++ faults_by u order) c.new-faults.ensures in
    record {
      has = subst (λ fs. Has fs (FeaturesBroken (given_in u))) (sym faults)
          (faults_of_given u c.requires order c.order.ensures);
      some = λ none. let z : false ≡ true = sym c.if-not-is_empty.true ∙ c.is_empty.ensures.1 none in cc;
    }

pub returns : goal.returns
returns c =
    let u = classes_of c.args.u.now in
    let order = class_numbers c.order.result.now in
    let none = sym (c.in_ok-rows.ensures.faults
    ∙ ap (λ (fs : List Fault). fs ++ faults_by u order) c.new-faults.ensures)
    ∙ c.is_empty.ensures.0 c.if-not-is_empty.false in
    record {
      rows = whole_rows u c.requires order c.order.ensures none c.in_ok-rows.rows.items c.in_ok-rows.ensures.rows
          c.in_ok-all_rows.field-0.items c.in_ok-all_rows.ensures;
      sound = none_broken u c.requires order c.order.ensures none;
      faults = tt;
    }
