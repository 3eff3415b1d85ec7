use Rattle.std.proofs.Common.{◌≡◌, ℕ, List, [], Some, ap, subst, sym, ◌∙◌, rules}
use Rattle.std.specs.List.Sorted.{IsStrictlySortedBy}
use Rattle.std.proofs.lemmas.Fn.{always_returns_same}
use Rattle.std.proofs.lemmas.Option.{slice_get-get_or}
use Rattle.eif_classes.specs.Names.{name_cmp}
use Rattle.eif_rows.proofs.NameSets.{rising-name_set}
use Rattle.eif_rows.proofs.RisingLists.{name_order}
use Rattle.eif_rows.proofs.Searching.{no_name}
use Rattle.eif_rows.proofs.names.find_name.Goals as goal

pub returns-in-Ok-clause-found : goal.returns-in-Ok-clause-found
returns-in-Ok-clause-found c =
    let name = c.args.name.now in
    let at = c.in-Ok.ensures.position (λ (n : List ℕ). name_cmp n name)
    (always_returns_same _ (λ a r. r ≡ name_cmp a.0.now name) _ (λ a r f k. search rules)) in
    slice_get-get_or c.args.names.now c.in-Ok.i [] c.in-Ok.ensures.bound ∙ ap Some (name_order.one _ _ (at []))

pub returns-in-Err-clause-none : goal.returns-in-Err-clause-none
returns-in-Err-clause-none c = λ ns is.
    let name = c.args.name.now in
    let none = c.in-Err.ensures.position (λ (n : List ℕ). name_cmp n name)
    (always_returns_same _ (λ a r. r ≡ name_cmp a.0.now name) _ (λ a r f k. search rules)) in
    let up = subst (IsStrictlySortedBy name_cmp) (sym is) (rising-name_set ns) in
    no_name c.args.names.now up name c.in-Err.field-0 none
