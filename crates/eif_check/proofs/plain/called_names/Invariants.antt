use Rattle.std.proofs.Common.{◌≡◌, ◌++◌, map, drop}
use Rattle.eif_tree.specs.View.{decl_view}
use Rattle.eif_check.specs.Mentions.{name_at}
use Rattle.eif_system_rules.specs.PlainClasses.{called_by_all}
use Rattle.eif_check.proofs.plain.called_names.Given as goal

abbrev pub invariant-decls : goal.invariant-decls
invariant-decls l =
    map name_at l.out.items ++ called_by_all (map (λ d. decl_view d.now) (drop l.decl-index l.decls))
    ≡ called_by_all (map (λ d. decl_view d.now) l.decls)
