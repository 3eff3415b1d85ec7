use Rattle.std.proofs.Common.{◌≡◌, ◌++◌, map, drop}
use Rattle.eif_heirs.specs.DraftParts.{lent_part}
use Rattle.eif_tree.specs.View.{features_view}
use Rattle.eif_heirs.proofs.parts.push_for_names.Given as goal

abbrev pub invariant-names : goal.invariant-names
invariant-names l =
    map lent_part l.out.items ++ map (λ n. features_view l.part) (drop l.index l.declaration.names.items)
    ≡ map lent_part l.initial.out.items ++ map (λ n. features_view l.part) l.declaration.names.items
