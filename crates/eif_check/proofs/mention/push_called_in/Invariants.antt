use Rattle.std.proofs.Common.{◌≡◌, ◌++◌, map, drop}
use Rattle.eif_tree.specs.Members.{called_in}
use Rattle.eif_tree.specs.View.{inss_from, instr_view}
use Rattle.eif_check.specs.Mentions.{name_at}
use Rattle.eif_check.proofs.mention.push_called_in.Given as goal

abbrev pub invariant-body : goal.invariant-body
invariant-body l =
    map name_at l.out.items ++ called_in (inss_from (map instr_view (drop l.instr-index l.body)))
    ≡ map name_at l.initial.out.items ++ called_in (inss_from (map instr_view l.body))
