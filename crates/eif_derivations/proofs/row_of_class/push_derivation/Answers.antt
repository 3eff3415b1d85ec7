use Rattle.std.proofs.Common.{◌++◌, ap, ◌∙◌}
use Rattle.eif_classes.specs.Ancestry.{ways}
use Rattle.eif_derivations.specs.ListNumbers.{lists_of}
use Rattle.eif_derivations.specs.ParentActuals.{lines_over}
use Rattle.eif_derivations.specs.WayViews.{derived_actuals}
use Rattle.eif_derivations.specs.declared.derivation.Derivation.{Derivation}
use Rattle.eif_derivations.proofs.RowsInTurn.{name_is, one_derivation}
use Rattle.eif_feature_rules.specs.DerivationRules.{ancestor_faults}
use Rattle.eif_tree.specs.View.{class_view}
use Rattle.eif_universe.specs.Universes.{classes_of}
use Rattle.eif_derivations.proofs.row_of_class.push_derivation.Goals as goal

pub returns-clause-derivation : goal.returns-clause-derivation
returns-clause-derivation c = λ d s are at other.
    let u = classes_of c.args.u.now in
    let class = class_view c.args.class.now in
    let x : Derivation = record { class_id = c.args.k; actuals = c.in_ok-actuals.actuals } in (
      x,
      c.in_ok-push.ensures.items,
      one_derivation u s d class at (lists_of c.keep.new.lists) x other
          (derived_actuals c.in_ok-derived.derived) c.in_ok-actuals.ensures.id
          (c.in_ok-derived.ensures.actuals u class s are),
    )

pub returns-clause-faults : goal.returns-clause-faults
returns-clause-faults c = λ s are.
    let u = classes_of c.args.u.now in
    let class = class_view c.args.class.now in
    let k = c.args.k.0 in
    let old = c.args.out.now in
    let ancestor = class_view c.tree.result.now in
    c.in_ok-actuals.ensures.faults
    ∙ (ap (λ fs. old ++ fs) (c.in_ok-derived.ensures.faults u class ancestor.name s are)
    ∙ ap (λ name. old ++ ancestor_faults class name (ways u class (lines_over u class) k))
    (name_is u k ancestor c.tree.ensures))
