use Rattle.std.proofs.Common.{◌≡◌, ◌++◌, map, drop}
use Rattle.eif_tree.specs.View.{decl_view}
use Rattle.eif_check.proofs.mention.push_declarations.Given as goal

abbrev pub invariant-decls : goal.invariant-decls
invariant-decls l =
    map (λ d. decl_view d.now) l.out.items ++ map decl_view (drop l.decl-index l.decls)
    ≡ map (λ d. decl_view d.now) l.initial.out.items ++ map decl_view l.decls
