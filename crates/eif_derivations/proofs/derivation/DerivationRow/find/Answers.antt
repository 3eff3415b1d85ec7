use Rattle.std.proofs.Common.{◌≡◌, ◌<◌, get_or, length, Err, refl, rules, subst, sym}
use Rattle.std.specs.List.Sorted.{IsBinarySearchResult}
use Rattle.std.specs.Ordering.{nat_cmp}
use Rattle.std.specs.declared.cmp.Ordering.TheVariants.{Equal}
use Rattle.std.proofs.lemmas.Fn.{always_returns_same}
use Rattle.std.proofs.lemmas.Option.{slice_get_read}
use Rattle.eif_derivations.specs.declared.derivation.Derivation.{Derivation}
use Rattle.eif_rows.proofs.RisingLists.{number_order}
use Rattle.eif_derivations.proofs.DerivationLists.{above_at, derivation_at, none_above}
use Rattle.eif_derivations.proofs.derivation.DerivationRow.find.Goals as goal

pub returns-in-Ok : goal.returns-in-Ok
returns-in-Ok c =
    let k = c.args.k.0 in
    let at = c.in-Ok.ensures.position (λ (x : Derivation). nat_cmp x.class_id.0 k)
    (always_returns_same _ (λ x r. r ≡ nat_cmp x.0.now.class_id.0 k) _ (λ x r f q. search rules)) in
    let xs = c.args.self.now.ancestors.items in
    let x = c.index.result.now in
    let read = c.deref.ensures.value in
    let within : c.in-Ok.i < length xs = subst (λ ys. c.in-Ok.i < length ys) read c.in-Ok.ensures.bound in
    let same = number_order.one x.class_id.0 k (subst (λ y. nat_cmp y.class_id.0 k ≡ Equal) (sym c.index.ensures)
    (subst (λ ys. nat_cmp (get_or ys c.in-Ok.i x).class_id.0 k ≡ Equal) read (at x))) in
    let place = slice_get_read xs (length xs) c.in-Ok.i x refl within c.index.ensures in
    record {
      found = λ u lists d is. derivation_at u lists d c.args.self.now is c.in-Ok.i k x place same;
      above = λ u lists d is. above_at u lists d c.args.self.now is c.in-Ok.i k x place same;
      none = tt;
    }

pub returns-in-Err-clause-none : goal.returns-in-Err-clause-none
returns-in-Err-clause-none c = λ u lists d is.
    let k = c.args.k.0 in
    let none = c.in-Err.ensures.position (λ (x : Derivation). nat_cmp x.class_id.0 k)
    (always_returns_same _ (λ x r. r ≡ nat_cmp x.0.now.class_id.0 k) _ (λ x r f q. search rules)) in
    none_above u lists d c.args.self.now is k c.in-Err.field-0
    (subst (λ ys. IsBinarySearchResult (λ x. nat_cmp x.class_id.0 k) ys (Err c.in-Err.field-0)) c.deref.ensures.value
    none)
