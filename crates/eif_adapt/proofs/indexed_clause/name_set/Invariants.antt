use Rattle.std.proofs.Common.{take}
use Rattle.eif_adapt.specs.NamedItems.{IsNameSet}
use Rattle.eif_adapt.proofs.indexed_clause.name_set.Given as goal

abbrev pub invariant-names : goal.invariant-names
invariant-names l = IsNameSet l.set (take l.name-index l.names)
