use Rattle.std.proofs.Common.{◌≡◌, map, drop}
use Rattle.std.specs.List.{list_all}
use Rattle.eif_feature_rules.specs.SignaturePairs.{are_equal}
use Rattle.eif_redecl.specs.EntryViews.{EntryView, entry_view}
use Rattle.eif_signatures.specs.SignatureViews.{signature_view}
use Rattle.eif_redecl.proofs.joined.have_one_signature.Given as goal

abbrev pub invariant-others : goal.invariant-others
invariant-others l =
    let equal = λ (x : EntryView). are_equal (signature_view l.first.signature) x.signature in
    list_all equal (map entry_view (drop l.other-index l.others)) ≡ list_all equal (map entry_view l.others)
