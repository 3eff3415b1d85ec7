use denote.Param.Send.{sendable}
use Rattle.std.proofs.Crossing.{crosses}
use Rattle.eif_check.proofs.Crossing.{tables_sync, types_sync, universe_sync}
use Rattle.eif_universe.specs.Universes.{classes_of}
use Rattle.std.proofs.lemmas.Result.{IfOk-weaker}
use Rattle.eif_check.proofs.GivenInTurn.{all_between}
use Rattle.eif_check.proofs.signatures.signatures_faults.Goals as goal

pub in_pieces-requires-sync-W : goal.in_pieces-requires-sync-W
in_pieces-requires-sync-W g c κs within =
    search (universe_sync, tables_sync, types_sync, crosses, sendable) depth 60 fits 20000

pub returns : goal.returns
returns g c =
    let w = c.args.work.now in
    IfOk-weaker c.joined.result _ _
    (λ list joined. all_between (classes_of w.universe.now) w.root.now c.requires.derived.tables_are.system
    c.given_count-count.result c.args.workers c.in_ok-pieces.pieces.items list c.requires.workers.0
    c.given_count-count.ensures c.in_ok-pieces.ensures joined)
    c.joined.ensures
