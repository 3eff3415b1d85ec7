use Rattle.std.proofs.Common.{map, take}
use Rattle.eif_adapt.specs.NamedItems.{IsNameSet}
use Rattle.eif_heirs.specs.declared.declared.DeclaredName.{DeclaredName}
use Rattle.eif_heirs.proofs.redefines.name_set.Given as goal

abbrev pub invariant-names : goal.invariant-names
invariant-names l = IsNameSet l.set (map (λ (x : DeclaredName). x.name.now) (take l.declared-index l.names))
