use Rattle.std.proofs.Common.{sym, ◌∙◌}
use Rattle.eif_feature_faults.proofs.Selecting.{one_name}
use Rattle.eif_feature_faults.proofs.replication.are_under_several.Goals as goal

pub returns-then-are_one : goal.returns-then-are_one
returns-then-are_one c = λ ns named.
    sym (one_name c.args.names.now c.args.features.now ns named (sym c.are_one.ensures ∙ c.if-are_one.true))
