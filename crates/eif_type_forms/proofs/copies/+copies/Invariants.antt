use Rattle.std.proofs.Common.{◌≡◌, ◌++◌, map, drop}
use Rattle.eif_type_forms.specs.View.{ty_view}
use Rattle.eif_type_forms.proofs.copies.+copies.Given as goal

abbrev pub invariant-copy_types-types : goal.invariant-copy_types-types
invariant-copy_types-types l =
    map ty_view l.copies.items ++ map ty_view (drop l.t-index l.ts) ≡ map ty_view l.ts
