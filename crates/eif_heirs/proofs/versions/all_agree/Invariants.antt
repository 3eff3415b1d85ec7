use Rattle.std.proofs.Common.{◌≡◌, drop}
use Rattle.std.specs.List.{list_all}
use Rattle.eif_heirs.specs.EntryParts.{agrees_at}
use Rattle.eif_heirs.proofs.versions.all_agree.Given as goal

abbrev pub invariant-entries : goal.invariant-entries
invariant-entries l =
    list_all (agrees_at l.heir l.version) (drop l.entry-index l.entries)
    ≡ list_all (agrees_at l.heir l.version) l.entries
