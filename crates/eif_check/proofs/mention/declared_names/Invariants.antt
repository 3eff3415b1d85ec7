use Rattle.std.proofs.Common.{◌≡◌, ◌++◌, map, drop}
use Rattle.std.specs.Prelude.{flat_map}
use Rattle.eif_tree.specs.View.{decl_view}
use Rattle.eif_check.specs.Mentions.{name_at}
use Rattle.eif_check.proofs.mention.declared_names.Given as goal

abbrev pub invariant-decls : goal.invariant-decls
invariant-decls l =
    map name_at l.out.items ++ flat_map (λ d. d.names) (map (λ d. decl_view d.now) (drop l.decl-index l.decls))
    ≡ flat_map (λ d. d.names) (map (λ d. decl_view d.now) l.decls)
