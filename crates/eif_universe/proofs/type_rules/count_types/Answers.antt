use Rattle.std.proofs.Common.{length, map, sym, ap, ◌∙◌}
use Rattle.std.proofs.lemmas.List.{length-map}
use Rattle.eif_tree.specs.View.{type_view}
use Rattle.eif_universe.proofs.TypeLists.{type_list-types_from}
use Rattle.eif_universe.proofs.type_rules.count_types.Goals as goal

pub returns : goal.returns
returns c =
    let types = c.args.types.now in
    sym (ap length (type_list-types_from (map type_view types)) ∙ length-map types type_view)
