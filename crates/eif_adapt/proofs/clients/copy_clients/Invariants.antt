use Rattle.std.proofs.Common.{◌≡◌, ◌++◌, drop}
use Rattle.eif_adapt.proofs.clients.copy_clients.Given as goal

abbrev pub invariant-names : goal.invariant-names
invariant-names l = l.names.items ++ drop l.name-index l.clients.names.items ≡ l.clients.names.items
