use Rattle.std.proofs.Common.{◌≡◌, map, drop}
use Rattle.std.specs.List.{list_all}
use Rattle.eif_tree.specs.View.{decl_view}
use Rattle.eif_system_rules.specs.PlainClasses.{is_plain_declaration}
use Rattle.eif_check.proofs.plain.are_plain_declarations.Given as goal

abbrev pub invariant-decls : goal.invariant-decls
invariant-decls l =
    list_all is_plain_declaration (map decl_view (drop l.decl-index l.decls))
    ≡ list_all is_plain_declaration (map decl_view l.decls)
