use Rattle.std.proofs.Common.{◌≡◌, ◌++◌, map, drop}
use Rattle.eif_check.specs.Mentions.{name_at}
use Rattle.eif_check.proofs.mention.push_names.Given as goal

abbrev pub invariant-names : goal.invariant-names
invariant-names l = map name_at l.out.items ++ drop l.name-index l.names ≡ map name_at l.initial.out.items ++ l.names
