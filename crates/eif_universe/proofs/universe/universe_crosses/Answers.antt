use denote.Param.Send.{sendable}
use Rattle.std.proofs.Crossing.{crosses}
use Rattle.eif_tree.proofs.Crossing.{class_send, class_sync}
use Rattle.eif_universe.proofs.universe.universe_crosses.Goals as goal

pub crosses-requires-send-T : goal.crosses-requires-send-T
crosses-requires-send-T c κs = search (class_send, crosses, sendable) depth 60 fits 20000

pub crosses-requires-sync-T : goal.crosses-requires-sync-T
crosses-requires-sync-T c κs = search (class_sync, crosses, sendable) depth 60 fits 20000
