use Rattle.std.proofs.Common.{◌≡◌, drop}
use Rattle.eif_heirs.specs.EntryParts.{first_lasting}
use Rattle.eif_heirs.proofs.versions.first_lasting.Given as goal

abbrev pub invariant-entries : goal.invariant-entries
invariant-entries l =
    first_lasting l.heir (drop l.entry-index l.entries) ≡ first_lasting l.heir l.entries
