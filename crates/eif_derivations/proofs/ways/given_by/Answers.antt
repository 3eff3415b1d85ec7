use Rattle.std.proofs.Common.{◌≡◌, true, Some, sym, subst, ◌∙◌}
use Rattle.std.proofs.lemmas.Bool.{eqb-false, eqb-true}
use Rattle.eif_classes.specs.Ancestry.{ancestor}
use Rattle.eif_classes.specs.Descent.{descends}
use Rattle.eif_derivations.specs.ListNumbers.{Holds}
use Rattle.eif_derivations.proofs.Systems.{down_to_above, down_to_itself, gives_itself, not_down}
use Rattle.eif_derivations.proofs.ways.given_by.Goals as goal
use Rattle.eif_system.specs.Lineage.{line_of}

pub returns-then-eq-clause-given : goal.returns-then-eq-clause-given
returns-then-eq-clause-given c = λ u lists class s at is.
    let d = c.args.class_id.0 in
    let own = c.args.row.now.own in
    subst (λ k. Holds lists (Some own) (ancestor u d k)) (eqb-true d c.args.k.0 (sym c.eq.ensures ∙ c.if-eq.true))
    (subst (Holds lists (Some own)) (sym (gives_itself u s d class at)) (is.own class at))

pub returns-then-eq-clause-down : goal.returns-then-eq-clause-down
returns-then-eq-clause-down c = λ u lists class s at is.
    let d = c.args.class_id.0 in
    subst (λ k. descends (line_of u d) k ≡ true) (eqb-true d c.args.k.0 (sym c.eq.ensures ∙ c.if-eq.true))
    (down_to_itself u s d class at)

pub returns-in-Some-clause-down : goal.returns-in-Some-clause-down
returns-in-Some-clause-down c = λ u lists class s at is.
    down_to_above u s c.args.class_id.0 class at c.args.k.0 (c.in-Some.ensures.above u lists c.args.class_id.0 is)

pub returns-in-None-clause-none : goal.returns-in-None-clause-none
returns-in-None-clause-none c = λ u lists class s at is.
    let d = c.args.class_id.0 in
    not_down u s d class at c.args.k.0 (eqb-false d c.args.k.0 (sym c.eq.ensures ∙ c.if-eq.false))
    (c.in-None.ensures.none u lists d is)
