use Rattle.std.proofs.Common.{◌≡◌, map, drop}
use Rattle.std.specs.List.{list_any}
use Rattle.eif_feature_rules.specs.JoinRules.{has_large_type}
use Rattle.eif_redecl.specs.EntryViews.{EntryView, entry_view}
use Rattle.eif_redecl.proofs.names.has_large_entry.Given as goal

abbrev pub invariant-entries : goal.invariant-entries
invariant-entries l =
    let is_large = λ (e : EntryView). has_large_type e.signature in
    list_any is_large (map entry_view (drop l.entry-index l.entries)) ≡ list_any is_large (map entry_view l.entries)
