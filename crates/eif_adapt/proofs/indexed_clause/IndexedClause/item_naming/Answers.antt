use Rattle.std.proofs.Common.{◌∙◌, Some, None, List, map, sym, ap}
use denote.Ref.{Bor}
use Rattle.std.specs.Prelude.{slice_get}
use Rattle.std.specs.Option.{option_map}
use Rattle.std.proofs.lemmas.Option.{slice_get-map}
use Rattle.eif_tree.specs.declared.class.ExportItem.{ExportItem}
use Rattle.eif_tree.specs.View.{export_view}
use Rattle.eif_adapt.specs.NamedItems.{names_item}
use Rattle.eif_adapt.proofs.Places.{lent_at, item_at}
use Rattle.eif_adapt.proofs.indexed_clause.IndexedClause.item_naming.Goals as goal

pub returns-in_err-find : goal.returns-in_err-find
returns-in_err-find c =
    let clause = c.args.self.now in
    let name = c.args.name.now in
    ap (option_map (λ (x : Bor ExportItem). export_view x.now)) c.from_residual.ensures
    ∙ item_at (names_item name) (map export_view clause.tree.now.exports.items) None
    (c.in_err-find.ensures ∙ clause.first_exports name)

pub returns : goal.returns
returns c =
    let clause = c.args.self.now in
    let name = c.args.name.now in
    let exports = clause.tree.now.exports.items in
    let i = c.in_ok-find.field-0 in
    lent_at export_view c.deref.result.now i c.get.result c.get.ensures.lookup
    ∙ (ap (λ (xs : List ExportItem). option_map export_view (slice_get xs i)) c.deref.ensures.value
    ∙ (sym (slice_get-map export_view exports i)
    ∙ item_at (names_item name) (map export_view exports) (Some i) (c.in_ok-find.ensures ∙ clause.first_exports name)))
