use Rattle.std.proofs.Common.{◌≡◌, drop, map}
use Rattle.eif_tree.specs.View.{decl_view}
use Rattle.eif_examples.specs.Digest.{after, reads_of}
use Rattle.eif_examples.specs.Numbers.{list_numbers, decl_numbers}
use Rattle.eif_examples.proofs.classes.declarations.Given as goal

abbrev pub invariant-decls : goal.invariant-decls
invariant-decls l =
    after l.so_far (list_numbers (decl_numbers (reads_of l.places)) (map decl_view (drop l.decl-index l.decls)))
    ≡ after l.initial.so_far (list_numbers (decl_numbers (reads_of l.places)) (map decl_view l.decls))
