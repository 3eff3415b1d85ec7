use Rattle.std.proofs.Common.{◌≡◌, ◌<◌, get_or, length, Err, refl, rules, subst, sym}
use Rattle.std.specs.List.Sorted.{IsBinarySearchResult}
use Rattle.std.specs.Ordering.{nat_cmp}
use Rattle.std.specs.declared.cmp.Ordering.TheVariants.{Equal}
use Rattle.std.proofs.lemmas.Fn.{always_returns_same}
use Rattle.std.proofs.lemmas.Option.{slice_get_read}
use Rattle.eif_rows.specs.declared.ancestor_row.AncestorRow.{AncestorRow}
use Rattle.eif_rows.proofs.AncestorLists.{ancestor_at, no_ancestor}
use Rattle.eif_rows.proofs.RisingLists.{number_order}
use Rattle.eif_rows.proofs.row.Row.ancestor.Goals as goal

pub returns-in-Ok-clause-found : goal.returns-in-Ok-clause-found
returns-in-Ok-clause-found c = λ u d is.
    let k = c.args.k.0 in
    let at = c.in-Ok.ensures.position (λ (a : AncestorRow). nat_cmp a.class_id.0 k)
    (always_returns_same _ (λ a r. r ≡ nat_cmp a.0.now.class_id.0 k) _ (λ a r f k. search rules)) in
    let xs = c.args.self.now.ancestors.items in
    let row = c.index.result.now in
    let read = c.deref.ensures.value in
    let within : c.in-Ok.i < length xs = subst (λ ys. c.in-Ok.i < length ys) read c.in-Ok.ensures.bound in
    let same = number_order.one _ _ (subst (λ a. nat_cmp a.class_id.0 k ≡ Equal) (sym c.index.ensures)
    (subst (λ ys. nat_cmp (get_or ys c.in-Ok.i row).class_id.0 k ≡ Equal) read (at row))) in
    ancestor_at u d c.args.self.now is c.in-Ok.i k row
    (slice_get_read xs (length xs) c.in-Ok.i row refl within c.index.ensures) same

pub returns-in-Err-clause-none : goal.returns-in-Err-clause-none
returns-in-Err-clause-none c = λ u d is.
    let k = c.args.k.0 in
    let none = c.in-Err.ensures.position (λ (a : AncestorRow). nat_cmp a.class_id.0 k)
    (always_returns_same _ (λ a r. r ≡ nat_cmp a.0.now.class_id.0 k) _ (λ a r f k. search rules)) in
    no_ancestor u d c.args.self.now is k c.in-Err.field-0
    (subst (λ ys. IsBinarySearchResult (λ a. nat_cmp a.class_id.0 k) ys (Err c.in-Err.field-0)) c.deref.ensures.value
    none)
