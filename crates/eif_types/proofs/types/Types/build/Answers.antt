use Rattle.std.proofs.Common.{◌≡◌, ◌++◌, true, false, List, sym, ap, subst, ◌∙◌}
use Rattle.eif_base.specs.Appends.{Has}
use Rattle.eif_base.specs.declared.fault.Fault.{Fault}
use Rattle.eif_derivation_laws.specs.GivenDerivations.{actuals_by, derivations_by}
use Rattle.eif_feature_rules.specs.FeaturePhases.{DerivationsBroken}
use Rattle.eif_types.proofs.Outcome.{all_defined, found, none_broken}
use Rattle.eif_universe.specs.Universes.{classes_of, given_in}
use Rattle.eif_types.proofs.types.Types.build.Goals as goal

pub returns-then-is_empty-clause-sound : goal.returns-then-is_empty-clause-sound
returns-then-is_empty-clause-sound c =
    let u = classes_of c.args.u.now in
    let judged = c.in_ok-derivations.ensures.faults in
    let faults = c.in_ok-push_actual_faults.ensures
    ∙ ap (λ (fs : List Fault). fs ++ actuals_by u)
    (judged.2 ∙ ap (λ (fs : List Fault). fs ++ derivations_by u judged.0) c.new-faults.ensures) in
    none_broken u c.requires judged.0 judged.1 (sym faults ∙ c.is_empty.ensures.0 c.if-is_empty.true)

pub returns-then-is_empty-clause-types : goal.returns-then-is_empty-clause-types
returns-then-is_empty-clause-types c =
    let u = classes_of c.args.u.now in
    let judged = c.in_ok-derivations.ensures.faults in
    let faults = c.in_ok-push_actual_faults.ensures
    ∙ ap (λ (fs : List Fault). fs ++ actuals_by u)
    (judged.2 ∙ ap (λ (fs : List Fault). fs ++ derivations_by u judged.0) c.new-faults.ensures) in
    let none = none_broken u c.requires judged.0 judged.1 (sym faults ∙ c.is_empty.ensures.0 c.if-is_empty.true) in
    record {
      are = record {
        system = c.requires;
        derivations_are = c.in_ok-derivations.ensures.rows;
        constraints_are = c.in_ok-constraints.ensures;
      };
      defined = all_defined u c.requires none;
    }

pub returns-else-is_empty-clause-faults : goal.returns-else-is_empty-clause-faults
returns-else-is_empty-clause-faults c =
    let u = classes_of c.args.u.now in
    let judged = c.in_ok-derivations.ensures.faults in
    let faults = c.in_ok-push_actual_faults.ensures
    ∙ ap (λ (fs : List Fault). fs ++ actuals_by u)
    (judged.2 ∙ ap (λ (fs : List Fault). fs ++ derivations_by u judged.0) c.new-faults.ensures) in
    record {
      has = subst (λ fs. Has fs (DerivationsBroken (given_in u))) (sym faults) (found u c.requires judged.0 judged.1);
      some = λ none. let z : false ≡ true = sym c.if-is_empty.false ∙ c.is_empty.ensures.1 none in cc;
    }
