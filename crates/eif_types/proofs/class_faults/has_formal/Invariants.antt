use Rattle.std.proofs.Common.{◌≡◌, map, drop}
use Rattle.std.specs.List.{list_any}
use Rattle.std.specs.Str.{bytes_eq}
use Rattle.eif_tree.specs.View.{formal_view}
use Rattle.eif_types.proofs.class_faults.has_formal.Given as goal

abbrev pub invariant-formals : goal.invariant-formals
invariant-formals l =
    list_any (λ f. bytes_eq f.name l.name) (map formal_view (drop l.formal-index l.formals))
    ≡ list_any (λ f. bytes_eq f.name l.name) (map formal_view l.formals)
