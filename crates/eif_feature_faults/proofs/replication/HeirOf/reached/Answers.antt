use Rattle.std.proofs.Common.{◌≡◌, ℕ, List, [], map, Some, ap, sym, ◌∙◌, rules}
use Rattle.eif_classes.specs.Features.{names}
use Rattle.eif_feature_faults.proofs.Replicating.{unreached}
use Rattle.eif_rows.specs.AncestorRows.{reached_at}
use Rattle.eif_rows.specs.Numbers.{names_of}
use Rattle.eif_system.specs.Lineage.{line_of}
use Rattle.eif_feature_faults.proofs.replication.HeirOf.reached.Goals as goal
use Rattle.eif_feature_faults.proofs.replication.HeirOf.reached.Goals.{in-Some+in_ok-push_reached, in_default}

pub returns : goal.returns
returns c = λ u d k s is.
    let out = c.match-find.out.items in
    elim c.match-find.branch [
      | in-Some+in_ok-push_reached w ↦ (
          let e : out ≡ reached_at c.args.self.now.becomes.now w.in-Some.feat.0 = search rules in
          ap (names_of (names (line_of u d))) e
          ∙ is.becomes_is.reached w.in-Some.feat.0 c.args.name.now (w.in-Some.ensures.found u k is.row_is))
      | in_default w ↦ (
          let e : out ≡ [] = search rules in
          ap (names_of (names (line_of u d))) e
          ∙ sym (ap (λ (ns : List (List ℕ)). map Some ns)
          (unreached u s k c.args.name.now (w.in_default.ensures.none u k is.row_is) d)))
    ]
