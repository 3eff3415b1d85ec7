use Rattle.std.proofs.Common.{◌≡◌, []}
use Rattle.eif_base.specs.declared.feat_id.FeatId.{FeatId}
use Rattle.eif_redecl.specs.SeenClauses.{group_at}
use Rattle.eif_redecl.proofs.groups.empty_groups.Given as goal

abbrev pub invariant-names : goal.invariant-names
invariant-names l = (f : FeatId) → group_at l.groups.items f ≡ []
