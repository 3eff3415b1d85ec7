use Rattle.std.proofs.Common.{◌≡◌, take}
use Rattle.eif_tables.proofs.numbering.numbered.Given as goal

abbrev pub invariant-names : goal.invariant-names
invariant-names l = l.numbering ≡ take l.name-index l.names
