use Rattle.std.proofs.Common.{◌≡◌, ◌∙◌, Option, Some, None, List, refl, ap}
use denote.Ref.{Bor}
use Rattle.std.specs.Prelude.{slice_get}
use Rattle.std.specs.Option.{option_map}
use Rattle.eif_tree.specs.declared.tree.RenamePair.{RenamePair}
use Rattle.eif_adapt.specs.NamedItems.{has_old_name}
use Rattle.eif_adapt.proofs.Places.{lent_at, item_at}
use Rattle.eif_adapt.proofs.indexed_clause.IndexedClause.rename_of.Goals as goal

same : (o : Option RenamePair) → option_map (λ r. r) o ≡ o
same None = refl
same (Some r) = refl

pub returns-in_err-find : goal.returns-in_err-find
returns-in_err-find c =
    let clause = c.args.self.now in
    let name = c.args.name.now in
    ap (option_map (λ (r : Bor RenamePair). r.now)) c.from_residual.ensures
    ∙ item_at (has_old_name name) clause.tree.now.renames.items None (c.in_err-find.ensures ∙ clause.first_renames name)

pub returns : goal.returns
returns c =
    let clause = c.args.self.now in
    let name = c.args.name.now in
    let renames = clause.tree.now.renames.items in
    let i = c.in_ok-find.field-0 in
    lent_at (λ (r : RenamePair). r) c.deref.result.now i c.get.result c.get.ensures.lookup
    ∙ (same (slice_get c.deref.result.now i)
    ∙ (ap (λ (rs : List RenamePair). slice_get rs i) c.deref.ensures.value
    ∙ item_at (has_old_name name) renames (Some i) (c.in_ok-find.ensures ∙ clause.first_renames name)))
