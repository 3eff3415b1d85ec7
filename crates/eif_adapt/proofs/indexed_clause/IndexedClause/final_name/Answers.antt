use Rattle.std.proofs.Common.{◌∙◌, ap}
use Rattle.std.specs.Option.{option_map_or}
use Rattle.eif_tree.specs.declared.tree.RenamePair.{RenamePair}
use Rattle.eif_adapt.proofs.Places.{renamed_by}
use Rattle.eif_adapt.proofs.indexed_clause.IndexedClause.final_name.Goals as goal

pub returns-in-Some : goal.returns-in-Some
returns-in-Some c =
    let name = c.args.name.now in
    ap (λ o. option_map_or (λ (r : RenamePair). r.new_name.name) o name) c.in-Some.ensures
    ∙ renamed_by name c.args.self.now.tree.now.renames.items

pub returns-in-None : goal.returns-in-None
returns-in-None c =
    let name = c.args.name.now in
    ap (λ o. option_map_or (λ (r : RenamePair). r.new_name.name) o name) c.in-None.ensures
    ∙ renamed_by name c.args.self.now.tree.now.renames.items
