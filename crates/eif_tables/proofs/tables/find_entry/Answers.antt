use Rattle.std.proofs.Common.{◌≡◌, get_or, rules, ap, ◌∙◌}
use Rattle.std.specs.Ordering.{nat_cmp}
use Rattle.std.proofs.lemmas.Cmp.{nat_cmp_total, tied_itself}
use Rattle.std.proofs.lemmas.Fn.{always_returns_same}
use Rattle.std.proofs.lemmas.Map.Keys.{sorted_from_strictly_increasing}
use Rattle.std.proofs.lemmas.Option.{slice_get-get_or}
use Rattle.eif_rows.proofs.RisingLists.{number_order}
use Rattle.eif_rows.proofs.Searching.{absent}
use Rattle.eif_tables.specs.declared.row_entry.RowEntry.{RowEntry}
use Rattle.eif_tables.proofs.tables.find_entry.Goals as goal

pub returns-in-Ok-clause-found : goal.returns-in-Ok-clause-found
returns-in-Ok-clause-found c =
    let id = c.args.id.0 in
    let at = c.in-Ok.ensures.position (λ (e : RowEntry). nat_cmp e.name_id.0 id)
    (always_returns_same _ (λ a r. r ≡ nat_cmp a.0.now.name_id.0 id) _ (λ a r f k. search rules)) in
    let none : RowEntry = record { name_id = record { 0 = 0 }; feat = record { 0 = 0 } } in
    let entries = c.args.entries.now in (
      c.in-Ok.i,
      slice_get-get_or entries c.in-Ok.i none c.in-Ok.ensures.bound,
      number_order.one (get_or entries c.in-Ok.i none).name_id.0 id (at none),
    )

pub returns-in-Err-clause-none : goal.returns-in-Err-clause-none
returns-in-Err-clause-none c = λ rising i e at same.
    let id = c.args.id.0 in
    let none = c.in-Err.ensures.position (λ (e : RowEntry). nat_cmp e.name_id.0 id)
    (always_returns_same _ (λ a r. r ≡ nat_cmp a.0.now.name_id.0 id) _ (λ a r f k. search rules)) in
    absent nat_cmp_total (λ (e : RowEntry). e.name_id.0) c.args.entries.now (sorted_from_strictly_increasing _ rising)
    id c.in-Err.field-0 none i e at (ap (λ x. nat_cmp x id) same ∙ tied_itself nat_cmp_total id)
