use Rattle.std.proofs.Common.{◌≡◌, map, drop}
use Rattle.std.specs.Prelude.{flat_map}
use Rattle.std.specs.List.{list_all}
use Rattle.eif_tree.specs.View.{features_view}
use Rattle.eif_system_rules.specs.PlainClasses.{is_plain_declaration}
use Rattle.eif_check.proofs.plain.are_plain_parts.Given as goal

abbrev pub invariant-parts : goal.invariant-parts
invariant-parts l =
    list_all is_plain_declaration (flat_map (λ part. part.decls) (map features_view (drop l.part-index l.parts)))
    ≡ list_all is_plain_declaration (flat_map (λ part. part.decls) (map features_view l.parts))
