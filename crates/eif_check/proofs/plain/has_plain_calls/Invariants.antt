use Rattle.std.proofs.Common.{◌≡◌, map, drop}
use Rattle.eif_tree.specs.View.{inss_from, instr_view}
use Rattle.eif_system_rules.specs.PlainClasses.{has_plain_calls}
use Rattle.eif_check.proofs.plain.has_plain_calls.Given as goal

abbrev pub invariant-body : goal.invariant-body
invariant-body l =
    has_plain_calls (inss_from (map instr_view (drop l.instr-index l.body)))
    ≡ has_plain_calls (inss_from (map instr_view l.body))
