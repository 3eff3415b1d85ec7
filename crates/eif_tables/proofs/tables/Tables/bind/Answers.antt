use Rattle.std.proofs.Common.{◌≡◌, ◌≢◌, true, Some, subst, sym, ◌∙◌}
use Rattle.std.proofs.lemmas.Bool.{eqb-false, eqb-true}
use Rattle.eif_classes.specs.Binding.{bind}
use Rattle.eif_classes.specs.Descent.{descends}
use Rattle.eif_classes.specs.Features.{names}
use Rattle.eif_rows.proofs.NameSets.{is_among-from_place}
use Rattle.eif_rows.specs.Numbers.{name_of}
use Rattle.eif_system.specs.Lineage.{line_of}
use Rattle.eif_tables.proofs.Bindings.{none_told, own_bound, some_told}
use Rattle.eif_tables.proofs.Descents.{itself_descends}
use Rattle.eif_tables.proofs.Held.{class_is, row_of}
use Rattle.eif_tables.proofs.tables.Tables.bind.Goals as goal

pub returns-then-eq-clause-bound : goal.returns-then-eq-clause-bound
returns-then-eq-clause-bound c = λ u m are named.
    let same = sym (eqb-true c.args.c.0 c.args.k.0 (sym c.eq.ensures ∙ c.if-eq.true)) in
    let here = subst (λ k. name_of (names (line_of u k)) c.args.f ≡ Some m) same named in
    here ∙ sym (subst (λ k. bind (line_of u c.args.c.0) k m ≡ Some m) (sym same)
    (own_bound u are.system c.args.c.0 m (class_is u c.args.self.now are c.args.c c.requires.class)
    (is_among-from_place (names (line_of u c.args.c.0)) c.args.f.0 m here)))

pub returns-then-eq-clause-some : goal.returns-then-eq-clause-some
returns-then-eq-clause-some c = λ u are.
    let same = eqb-true c.args.c.0 c.args.k.0 (sym c.eq.ensures ∙ c.if-eq.true) in
    subst (λ k. descends (line_of u c.args.c.0) k ≡ true) same
    (itself_descends u are.system c.args.c.0 (class_is u c.args.self.now are c.args.c c.requires.class))

pub returns-clause-some : goal.returns-clause-some
returns-clause-some c =
    let t = c.args.self.now in
    let other : c.args.c.0 ≢ c.args.k.0 = eqb-false c.args.c.0 c.args.k.0 (sym c.eq.ensures ∙ c.if-eq.false) in
    some_told t c.args.c.0 c.args.k.0 c.args.f c.table.result.now c.requires.feature.table c.table.ensures
    c.requires.feature.at c.requires.feature.named c.bound_name.result c.bound_name.ensures.below
    (λ u m are named. c.bound_name.ensures.bound u c.args.c.0 m are.system
    (class_is u t are c.args.c c.requires.class) other
    (row_of u t are c.args.c.0 c.table.result.now c.table.ensures) named)

pub returns-clause-none : goal.returns-clause-none
returns-clause-none c =
    let t = c.args.self.now in
    let other : c.args.c.0 ≢ c.args.k.0 = eqb-false c.args.c.0 c.args.k.0 (sym c.eq.ensures ∙ c.if-eq.false) in
    none_told t c.args.c.0 c.args.k.0 c.args.f c.table.result.now c.requires.feature.table c.table.ensures
    c.requires.feature.at c.requires.feature.named c.bound_name.result
    (λ u m are named. c.bound_name.ensures.bound u c.args.c.0 m are.system
    (class_is u t are c.args.c c.requires.class) other
    (row_of u t are c.args.c.0 c.table.result.now c.table.ensures) named)
