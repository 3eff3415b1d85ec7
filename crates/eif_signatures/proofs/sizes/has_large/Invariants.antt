use Rattle.std.proofs.Common.{◌≡◌, map, drop}
use Rattle.std.specs.List.{list_any}
use Rattle.eif_signatures.specs.SignatureViews.{is_large}
use Rattle.eif_type_forms.specs.View.{ty_view}
use Rattle.eif_signatures.proofs.sizes.has_large.Given as goal

abbrev pub invariant-types : goal.invariant-types
invariant-types l = list_any is_large (map ty_view (drop l.t-index l.types)) ≡ list_any is_large (map ty_view l.types)
